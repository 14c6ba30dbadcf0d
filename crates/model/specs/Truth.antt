-- The truth values of links: 0, 1 and 1/2, how two of them join, and which lies under which.
use Rattle.std.specs.Prelude.{ℕ, zero, suc, Bool, true, false}

-- "Truth values are 0, 1 and 1/2"
pub data Truth : Type 0 where
  𝟘 𝟙 ½ : Truth

-- ".. written 2 in the file"
abbrev pub code : Truth → ℕ
code 𝟘 = 0
code 𝟙 = 1
code ½ = 2

abbrev pub truth : ℕ → Truth
truth zero = 𝟘
truth (suc zero) = 𝟙
truth (suc (suc m)) = ½

-- "Two of them join to the common value, or to 1/2 when they differ."
abbrev pub join : Truth → Truth → Truth
join 𝟘 𝟘 = 𝟘
join 𝟘 𝟙 = ½
join 𝟘 ½ = ½
join 𝟙 𝟘 = ½
join 𝟙 𝟙 = 𝟙
join 𝟙 ½ = ½
join ½ 𝟘 = ½
join ½ 𝟙 = ½
join ½ ½ = ½

-- "A value lies under itself and under 1/2."
abbrev pub under : Truth → Truth → Bool
under 𝟘 𝟘 = true
under 𝟘 𝟙 = false
under 𝟘 ½ = true
under 𝟙 𝟘 = false
under 𝟙 𝟙 = true
under 𝟙 ½ = true
under ½ 𝟘 = false
under ½ 𝟙 = false
under ½ ½ = true

-- ---- what the steps ask of a link value

-- "a nonzero link": there may be one
abbrev pub may : Truth → Bool
may 𝟘 = false
may 𝟙 = true
may ½ = true

-- "link 1": there must be one
abbrev pub must : Truth → Bool
must 𝟘 = false
must 𝟙 = true
must ½ = false

-- "the link was 1/2"
abbrev pub half : Truth → Bool
half 𝟘 = false
half 𝟙 = false
half ½ = true

-- "every 1/2 becomes 0"
abbrev pub sure : Truth → Truth
sure 𝟘 = 𝟘
sure 𝟙 = 𝟙
sure ½ = 𝟘
