-- The worked examples of document 01, computed by the definitions: T1 to T11, file F with its variants, and outside steps.
use mathlib.Core.List.{List, map}
use mathlib.Core.Path.{◌≡◌, refl}
use Rattle.model.specs.File.{◌then◌, in_turn, field, marked, preamble, head, point_record, point_records, shape_count, held, floor, individual, individuals, link_values, shape_record, start, shape_records, ended, body, reading, part}
use Rattle.model.specs.Verdict.{lists_some, covered_there, lost, lost_from, lowest_lost, all_listed, answer_byte, open_points, judged, verdict, table, buffer_after}
use Rattle.model.specs.Examples.{Example, computed, t1_to_t11}
use Rattle.model.specs.Files.{decided, files}
use Rattle.model.specs.Vectors.{steps_1, steps_2, steps_3, steps_4, steps_5, steps_6}

-- every example gives what it says
abbrev Hold : List Example → Type 0
Hold l = map computed l ≡ map (λ e. e.gives) l

pub t1_to_t11_hold : Hold t1_to_t11
unfolding t1_to_t11
t1_to_t11_hold = refl

pub files_hold : map decided files ≡ files
unfolding files verdict judged reading preamble body head point_records point_record shape_count shape_records shape_record individuals individual link_values ended field ◌then◌ in_turn marked held floor start part lists_some covered_there lost lost_from lowest_lost all_listed answer_byte open_points buffer_after table
files_hold = refl

pub steps_1_hold : Hold steps_1
unfolding steps_1
steps_1_hold = refl

pub steps_2_hold : Hold steps_2
unfolding steps_2
steps_2_hold = refl

pub steps_3_hold : Hold steps_3
unfolding steps_3
steps_3_hold = refl

pub steps_4_hold : Hold steps_4
unfolding steps_4
steps_4_hold = refl

pub steps_5_hold : Hold steps_5
unfolding steps_5
steps_5_hold = refl

pub steps_6_hold : Hold steps_6
unfolding steps_6
steps_6_hold = refl
