-- For computed sessions: a proof that unfolds `sessions_computed` unfolds all that the session is made of, the grammar's words among them.
use Rattle.std.specs.Prelude.{Bool, true}
use Rattle.grammar.specs.Computing.{words_computed}
use Rattle.mail.specs.Mail.{turn_text, transfers_text}
use Rattle.session.specs.Choices.{chosen, answers_to}
use Rattle.session.specs.Calls.{receive, give}

unfoldable pub sessions_computed : Bool
unfolding words_computed turn_text transfers_text chosen answers_to receive give
sessions_computed = true
