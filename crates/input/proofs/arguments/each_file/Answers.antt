-- One more call that answered Ok, or none.
use borrow.Author.Rules.{rules}
use Rattle.std.proofs.Common.{of_calls}
use Rattle.input.proofs.Calls.{one_more}
use Rattle.input.proofs.arguments.each_file.Goals as goal
use Rattle.input.proofs.arguments.each_file.Goals.{in-Ok+in-Ok-from_utf8+in-Ok-contents+in_ok-each-in-Ok-contents, in-Ok+in-Ok-from_utf8+in-Err-contents+in_ok-eprintln-in-Err-contents, in-Ok+in-Err+in_ok-eprintln-in-Err, in-Err-TooLong+in_ok-eprintln-in-Err-TooLong}

pub loop-i-preserved : goal.loop-i-preserved
loop-i-preserved g c = elim c.match-arg.branch [ in-Ok+in-Ok-from_utf8+in-Ok-contents+in_ok-each-in-Ok-contents w ↦ rw w.each-is record { callable = search (rules, of_calls); calls = one_more c.loop-i.invariant.calls (w.in_ok-each-in-Ok-contents.ensures) } | in-Ok+in-Ok-from_utf8+in-Err-contents+in_ok-eprintln-in-Err-contents w ↦ rw w.each-is c.loop-i.invariant | in-Ok+in-Err+in_ok-eprintln-in-Err w ↦ rw w.each-is c.loop-i.invariant | in-Err-TooLong+in_ok-eprintln-in-Err-TooLong w ↦ rw w.each-is c.loop-i.invariant ]
