-- A row of the table of answers as text.
use Rattle.std.specs.Prelude.{ℕ, List, ◌++◌, codes}
use Rattle.std.specs.Fmt.{decimal}
use Rattle.claim.specs.declared.fields.Row.{Row}

-- its numbers, set apart by spaces
abbrev pub row_text : Row → List ℕ
row_text r = decimal r.number ++ codes " " ++ decimal r.a ++ codes " " ++ decimal r.b
