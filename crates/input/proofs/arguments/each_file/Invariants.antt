-- The calls so far all answered Ok, and more may follow.
use Rattle.input.specs.Calls.{AllOk}
use Rattle.input.proofs.arguments.each_file.Given as goal

abbrev pub invariant-loop-i : goal.invariant-loop-i
invariant-loop-i g l = record {
  callable : goal.F-IsAlwaysCallable g l.each;
  calls : AllOk (goal.F-step g) l.fn.each l.each;
}
