-- How messages lie in the inbox and their bodies in the store, byte for byte.
use Rattle.std.specs.Prelude.{List, [], ◌∷◌, ◌++◌, ℕ, ◌+◌, length}
use Rattle.grammar.specs.Bytes.{Bytes}
use Rattle.mail.specs.Mail.{Message}
use Rattle.layout.specs.Layout.{message_bytes}

-- The entries of these messages, in order; the first body begins at start, "bodies lie one after another".
abbrev pub entries_bytes : ℕ → List Message → Bytes
entries_bytes start [] = []
entries_bytes start (m ∷ ms) = message_bytes m start ++ entries_bytes (start + length m.body) ms

-- Their bodies, one after another.
abbrev pub bodies_bytes : List Message → Bytes
bodies_bytes [] = []
bodies_bytes (m ∷ ms) = m.body ++ bodies_bytes ms
