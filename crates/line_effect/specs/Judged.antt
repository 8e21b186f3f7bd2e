-- What a line comes to, on the state as session memory holds it.
use Rattle.std.specs.Prelude.{ℕ}
use Rattle.session_memory.specs.Session.{Session}
use Rattle.line_effect.specs.declared.Marks.{Marks}

-- 01's number, or 0 with the marks to set and whether it is then our turn; next: the state after the line, as it was where the line is refused
pub record Judged : Type 0 where
  pub answer : ℕ
  pub speaks : ℕ
  pub marks : Marks
  pub next : Session
