-- For computed examples. To unfold a definition is to unfold what its own line names, so a proof by computation that unfolds `words_computed` unfolds every
-- reader and writer of the grammar; a request that adds one names it here, and no proof of an example.
use Rattle.grammar.specs.Fields.{is_at, is_bid, is_call, is_size, read_from, hex_digit, two_hex, words, write_num, same_bid}
use Rattle.grammar.specs.Lines.{trim, is_comment, is_prompt}
use Rattle.grammar.specs.Sid.{level_of_sid, read_sid}
use Rattle.grammar.specs.Turns.{read_proposal, read_summed_end, read_turn_line, proposal_line}
use Rattle.grammar.specs.Errors.{error_text}
use Rattle.grammar.specs.Answers.{digit_count, read_fs, sign_at, fs_line}
use Rattle.grammar.specs.Transfers.{parse, read_transfer, write_transfer}
use Rattle.std.specs.Prelude.{Bool, true}

unfoldable pub words_computed : Bool
unfolding is_at is_bid is_call is_size read_from hex_digit two_hex words write_num same_bid trim is_comment is_prompt read_sid level_of_sid read_proposal read_summed_end read_turn_line proposal_line error_text read_fs sign_at digit_count fs_line parse read_transfer write_transfer
words_computed = true
