-- The first record that isn't right decides; past the last one the table of starts is whole.
use native.Mathlib.Omega.{arith}
use Rattle.std.proofs.Common.{rules}
use Rattle.std.proofs.lemmas.Grind.{common_steps}
use Rattle.format.specs.Meaning.{meaning}
use Rattle.model.specs.File.{shape_records}
use Rattle.claim.specs.Reads.{zeros}
use Rattle.claim.proofs.Next.{table_end}
use Rattle.claim.proofs.Steps.{steps, ended_fine, ended_cut}
use Rattle.claim.proofs.reader.Reader.records.Goals as goal

pub returns-in_err-end : goal.returns-in_err-end
unfolding shape_records
returns-in_err-end c = record {
  reading = grind (arith, common_steps, steps, c.in_err-end.ensures.reading, c.in_ok-shapes.ensures.few);
  rest = search rules;
}

pub returns-then-end-self : goal.returns-then-end-self
unfolding shape_records
returns-then-end-self c =
    let m = c.in_ok-shapes.ensures in
    let e = c.in_ok-end.ensures in
    let z = ended_cut (meaning c.args.self.now.form) c.args.self.now.file.now c.in_ok-end.end (grind (arith, common_steps, e.past, m.is, m.few)) (omega arith) in
    record { reading = grind (arith, common_steps, steps, e.reading, z, m.few); rest = tt }

pub returns : goal.returns
unfolding shape_records zeros
returns c =
    let m = c.in_ok-shapes.ensures in
    let e = c.in_ok-end.ensures in
    let z = ended_fine (meaning c.args.self.now.form) c.args.self.now.file.now c.in_ok-end.end (grind (arith, common_steps, e.past, m.is, m.few)) (omega arith) in
    record {
      reading = grind (arith, common_steps, steps, e.reading, z, m.few);
      rest = record {
        vars = grind arith;
        points = grind arith;
        shapes = grind arith;
        starts = table_end _ _ _ _ _ e.starts e.past (grind (arith, common_steps, m.few)) m.is (omega (arith, m.few));
      };
    }
