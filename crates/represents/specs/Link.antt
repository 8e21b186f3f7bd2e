-- What a byte, and the bytes of a receive, come to on lent memory that represents a session on lists: the laws are in proofs/Byte.
use Rattle.std.specs.Prelude.{◌≡◌, ℕ, ◌+◌, ◌-◌}
use Rattle.session.specs.Choices.{Shelf}
use Rattle.session.specs.Session as on_lists
use Rattle.session.specs.Calls as on_lists_calls
use Rattle.receive_defined.specs.Receiving.{Cs, Moved, Run}
use Rattle.form_closed.specs.Fixed.{Fixed}
use Rattle.represents.specs.Represents.{Represents}
use Rattle.represents.specs.Frame.{Spared}

-- A byte on the memory c: the answer is that of the session on lists, the memory after it represents that session after it, and the rest is
-- spared.
pub record Moving (F : Fixed) (E : Shelf) (c : Cs) (x : Moved) (o : on_lists.Stepped) : Type 0 where
  pub answer : x.answer ≡ o.answer
  pub represents : Represents F E x.cs o.session
  pub spared : Spared c x.cs

-- The same of all bytes of a receive, and of how many it consumed, n before them.
pub record Receiving (F : Fixed) (E : Shelf) (c : Cs) (n : ℕ) (r : Run) (o : on_lists_calls.Received) : Type 0 where
  pub answer : r.answer ≡ o.answer
  pub count : r.count ≡ n + o.count
  pub represents : Represents F E r.cs o.session
  pub spared : Spared c r.cs
