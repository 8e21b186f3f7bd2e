-- The digits are the number's.
use Rattle.std.proofs.Common.{ap, ◌∙◌, List, [], ◌∷◌, ◌++◌}
use Rattle.grammar.specs.Bytes.{Bytes, CR}
use Rattle.buffer.proofs.Laws.{takes_as}
use Rattle.our_line.proofs.put_size.Goals as goal

pub returns : goal.returns
returns c = takes_as (ap (λ (x : Bytes). x ++ CR ∷ []) (c.as_bytes.ensures ∙ c.digits-d.ensures)) c.put_line.ensures
