-- Ten individuals have a hundred links.
use Prim.Native.Nat.{ℕ, ◌*◌, ◌<◌, ◌≤◌}
use native.Mathlib.Nat.{mul-le-mul_left}
use native.Mathlib.Omega.{arith}

pub square_low : (k : ℕ) → k < 11 → k * k ≤ 100
square_low k h =
    let a : k * k ≤ k * 10 = mul-le-mul_left k (let z : k ≤ 10 = omega arith in z) in
    omega arith
