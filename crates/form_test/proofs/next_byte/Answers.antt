-- The byte at pos is there, or it isn't.
use mathlib.Core.Path.{sym, ◌∙◌}
use Rattle.session_memory.specs.State.{load_of, load_say}
use Rattle.form_test.proofs.Laws.{there_ok, given_whole}
use Rattle.form_test.proofs.next_byte.Goals as goal

pub returns-in-Some-clause-value : goal.returns-in-Some-clause-value
unfolding load_of load_say
returns-in-Some-clause-value c = let a = c.args in there_ok (load_of a.sm.now) a.table.now a.titles.now a.names.now a.bodies.now (sym c.is_waiting.ensures ∙ c.if-not-is_waiting.false) c.eight.ensures c.in-Some.ensures

pub returns-in-None-clause-value : goal.returns-in-None-clause-value
unfolding load_of load_say
returns-in-None-clause-value c = let a = c.args in given_whole (load_of a.sm.now) a.table.now a.titles.now a.names.now a.bodies.now (sym c.is_waiting.ensures ∙ c.if-not-is_waiting.false) c.eight.ensures c.in-None.ensures
