-- For the functions within: the letters A to Z and a to z, of which a comparison of BIDs takes the two cases as one.
use Rattle.std.specs.Prelude.{Bool, true, false, cond, ℕ, ◌+◌, ltb}
use Rattle.grammar.specs.Bids.{capital_a, capital_z, to_small}

abbrev pub is_letter : ℕ → Bool
is_letter a = cond (ltb a capital_a) false (cond (ltb a (capital_z + 1)) true (cond (ltb a (capital_a + to_small)) false (ltb a (capital_z + to_small + 1))))
