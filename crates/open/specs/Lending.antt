-- What open is called with, in one record: its role, the partner and the eight buffers. They are lists of bytes of whatever length and content; nothing is
-- assumed of them. What a request lends besides, or has open told, joins here.
use Rattle.std.specs.Prelude.{ℕ}
use Rattle.grammar.specs.Bytes.{Bytes}

-- "role (0 called, 1 caller)"
abbrev pub role_called : ℕ
role_called = 0

abbrev pub role_caller : ℕ
role_caller = 1

pub record Lending : Type 0 where
  pub role : ℕ
  pub partner : ℕ
  pub session : Bytes
  pub table : Bytes
  pub titles : Bytes
  pub names : Bytes
  pub bodies : Bytes
  pub known : Bytes
  pub inbox : Bytes
  pub store : Bytes

-- The same of its parts, in the order of the call.
abbrev pub lending : ℕ → ℕ → Bytes → Bytes → Bytes → Bytes → Bytes → Bytes → Bytes → Bytes → Lending
lending role partner session table titles names bodies known inbox store =
    record {
      role = role;
      partner = partner;
      session = session;
      table = table;
      titles = titles;
      names = names;
      bodies = bodies;
      known = known;
      inbox = inbox;
      store = store;
    }
