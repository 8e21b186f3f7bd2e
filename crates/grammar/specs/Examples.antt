-- 01, "Examples at the edges": the marked (●) ones as one list of questions with their answers, and a second list of edges that the
-- other sentences of 01, and the requests of 02, draw; those of bytes stand in Edges, those of levels in Levels. Both are proved by computation,
-- each as one statement, in proofs/Examples.
use Rattle.std.specs.Prelude.{Bool, true, false, List, [], ◌∷◌, ◌++◌, ℕ, length, replicate}
use Rattle.std.proofs.Math.Option.{Option, none, some}
use Rattle.grammar.specs.Bytes.{Bytes}
use Rattle.grammar.specs.Ascii.{text}
use Rattle.grammar.specs.Fields.{Form, file, message, plain, same_bid}
use Rattle.grammar.specs.Lines.{trim, is_comment, is_prompt, line_byte, line_byte_number, LineRead, line, refused, unfinished, line_steps}
use Rattle.grammar.specs.Sid.{framed, level_of_sid, read_sid, sid_number}
use Rattle.grammar.specs.Turns.{TurnLine, ends_block, ends_summed, not_allowed, our_block, proposes, read_turn_line, says_ff, says_fq, turn_line_number}
use Rattle.grammar.specs.Answers.{Sign, accept, decline, defer, fs_number, read_fs, Level, level0}
use Rattle.grammar.specs.Transfers.{kind_of, Content, read_transfer, write_transfer}
use Rattle.grammar.specs.Scan.{Scanned, goes, got, in_body, in_data, in_head, malformed, no_room, scan, wrong_sum}

pub data Question : Type 0 where
  sid : Bytes → Question  -- a partner's first line
  text_line : Bytes → Question  -- a line where the prompt is awaited
  turn_line : Bool → Bytes → Question  -- a line of a turn, in plain (false) or framed (true) mode
  proposed : List ℕ → Question  -- how many of the records with these announced sizes
  awaited : ℕ → Bytes → Question  -- a line where FS is awaited, to so many proposals, at level 0
  awaited_at : Level → ℕ → Bytes → Question  -- the same at a level
  in_force : Bytes → Question  -- the level in force with a partner of this SID
  line_byte_at : Bool → ℕ → ℕ → Question  -- the next byte where so many of a line are there, after a CR (true) or not
  line_from : Bool → Bytes → Question  -- bytes where a line is awaited, after a CR (true) or not
  sent : Form → Bytes → Bytes → Question  -- a transfer as we write it: heading and data
  received : ℕ → Form → Bytes → Question  -- bytes of a transfer, read whole, and byte by byte with so much room
  one_bid : Bytes → Bytes → Question  -- two BIDs

pub data Answer : Type 0 where
  sid_is : ℕ → Bool → List ℕ → Answer  -- the number, the mode, the 27 levels
  text_is : Bool → Bool → Answer  -- whether the line is ignored, and whether it is a prompt
  number : ℕ → Answer
  says : ℕ → TurnLine → Answer  -- the number, and what a line of a turn says
  signs : List Sign → Answer
  line_read : LineRead → Answer
  bytes : Bytes → Answer
  heard : Option Content → Scanned → Answer
  is_one : Bool → Answer
  is_level : Level → Answer

abbrev pub sid_answer : Option (List ℕ) → Answer
sid_answer none = number (sid_number none)
sid_answer (some fs) = sid_is (sid_number (some fs)) (framed fs) fs

abbrev pub line_answer : TurnLine → Answer
line_answer t = says (turn_line_number t) t

abbrev pub fs_answer : ℕ → Option (List Sign) → Answer
fs_answer n none = number n
fs_answer n (some ss) = signs ss

abbrev pub level_answer : Option (List ℕ) → Answer
level_answer none = number (sid_number none)
level_answer (some fs) = is_level (level_of_sid fs)

abbrev pub itself : ℕ → ℕ
itself n = n

abbrev pub answer : Question → Answer
answer (sid ln) = sid_answer (read_sid (trim ln))
answer (text_line ln) = text_is (is_comment (trim ln)) (is_prompt (trim ln))
answer (turn_line md ln) = line_answer (read_turn_line md (trim ln))
answer (proposed sizes) = number (length (our_block itself 0 0 sizes))
answer (awaited n ln) = fs_answer (fs_number level0 n (trim ln)) (read_fs level0 n (trim ln))
answer (awaited_at v n ln) = fs_answer (fs_number v n (trim ln)) (read_fs v n (trim ln))
answer (in_force ln) = level_answer (read_sid (trim ln))
answer (line_byte_at after_cr n b) = number (line_byte_number (line_byte after_cr n b))
answer (line_from after_cr bs) = line_read (line_steps after_cr [] bs)
answer (sent f h x) = bytes (write_transfer (kind_of f) h x)
answer (received room f p) = heard (read_transfer (kind_of f) p) (scan room (kind_of f) p)
answer (one_bid v w) = is_one (same_bid v w)

pub record Example : Type 0 where
  pub asked : Question
  pub told : Answer

abbrev pub example_answered : Example → Answer
example_answered e = answer e.asked

abbrev pub expected : Example → Answer
expected e = e.told

-- the ● examples of 01, in its order
abbrev pub examples : List Example
examples =
    record { asked = sid (text "[ZFJ-2.3-H$]"); told = sid_is 4 false (0 ∷ 0 ∷ 0 ∷ 0 ∷ 0 ∷ 0 ∷ 0 ∷ 1 ∷ 0 ∷ 0 ∷ 0 ∷ 0 ∷ 0 ∷ 0 ∷ 0 ∷ 0 ∷ 0 ∷ 0 ∷ 0 ∷ 0 ∷ 0 ∷ 0 ∷ 0 ∷ 0 ∷ 0 ∷ 0 ∷ 1 ∷ []) } ∷
    record { asked = sid (text "[BayCom-1.40P-AB1D1FHMRW$]"); told = sid_is 0 true (1 ∷ 2 ∷ 0 ∷ 2 ∷ 0 ∷ 1 ∷ 0 ∷ 1 ∷ 0 ∷ 0 ∷ 0 ∷ 0 ∷ 1 ∷ 0 ∷ 0 ∷ 0 ∷ 0 ∷ 1 ∷ 0 ∷ 0 ∷ 0 ∷ 0 ∷ 1 ∷ 0 ∷ 0 ∷ 0 ∷ 1 ∷ []) } ∷
    record { asked = sid (text "[A--H]"); told = number 3 } ∷
    record { asked = sid (text "[A-$]"); told = number 3 } ∷
    record { asked = turn_line false (text "FB P F6FBB FC1GHV FC1MVP 24657_F6FBB 1345"); told = says 0 (proposes (record { form = plain; type = 80; from = text "F6FBB"; at = text "FC1GHV"; to = text "FC1MVP"; bid = text "24657_F6FBB"; size = 1345 })) } ∷
    record { asked = turn_line false (text "FB P F6FBB FC1GHV FC1MVP 24657_F6FBB"); told = says 5 not_allowed } ∷
    record { asked = proposed (1345 ∷ 5346 ∷ 8548 ∷ 1 ∷ []); told = number 3 } ∷
    record { asked = proposed (10239 ∷ 1 ∷ 1 ∷ []); told = number 2 } ∷
    record { asked = awaited 3 (text "FS -+="); told = signs (decline ∷ accept ∷ defer ∷ []) } ∷
    record { asked = awaited 3 (text "FS -+"); told = number 7 } ∷
    record { asked = sent message (text "HI") (text "AB"); told = bytes (1 ∷ 5 ∷ 72 ∷ 73 ∷ 0 ∷ 48 ∷ 0 ∷ 2 ∷ 2 ∷ 65 ∷ 66 ∷ 4 ∷ 125 ∷ []) } ∷
    record { asked = received 65535 message (1 ∷ 5 ∷ 72 ∷ 73 ∷ 0 ∷ 48 ∷ 0 ∷ 2 ∷ 2 ∷ 65 ∷ 66 ∷ 4 ∷ 125 ∷ []); told = heard (some (record { heading = text "HI"; body = text "AB" })) (got (text "HI") (text "AB")) } ∷
    record { asked = sent message (text "HI") []; told = bytes (1 ∷ 5 ∷ 72 ∷ 73 ∷ 0 ∷ 48 ∷ 0 ∷ 4 ∷ 0 ∷ []) } ∷
    record { asked = received 65535 message (1 ∷ 5 ∷ 72 ∷ 73 ∷ 0 ∷ 48 ∷ 0 ∷ 4 ∷ 0 ∷ []); told = heard (some (record { heading = text "HI"; body = [] })) (got (text "HI") []) } ∷
    []

-- more edges
abbrev pub edges : List Example
edges =
    record { asked = line_byte_at false 255 65; told = number 0 } ∷
    record { asked = line_byte_at false 256 65; told = number 2 } ∷
    record { asked = line_byte_at false 256 13; told = number 0 } ∷
    record { asked = line_byte_at true 256 10; told = number 0 } ∷
    record { asked = line_from false (replicate 256 65 ++ (13 ∷ 10 ∷ [])); told = line_read (line (replicate 256 65) (10 ∷ [])) } ∷
    record { asked = line_from false (replicate 257 65); told = line_read refused } ∷
    record { asked = line_from false (replicate 256 65); told = line_read (unfinished (replicate 256 65)) } ∷
    record { asked = line_from true (10 ∷ 70 ∷ 13 ∷ []); told = line_read (line (70 ∷ []) []) } ∷
    record { asked = line_from true (10 ∷ 10 ∷ 13 ∷ []); told = line_read (line (10 ∷ []) []) } ∷
    record { asked = line_from false (10 ∷ 13 ∷ []); told = line_read (line (10 ∷ []) []) } ∷
    record { asked = sid (text "[NOD-1-B1FH$]"); told = sid_is 0 true (0 ∷ 2 ∷ 0 ∷ 0 ∷ 0 ∷ 1 ∷ 0 ∷ 1 ∷ 0 ∷ 0 ∷ 0 ∷ 0 ∷ 0 ∷ 0 ∷ 0 ∷ 0 ∷ 0 ∷ 0 ∷ 0 ∷ 0 ∷ 0 ∷ 0 ∷ 0 ∷ 0 ∷ 0 ∷ 0 ∷ 1 ∷ []) } ∷
    record { asked = sid (text "[A---F]"); told = sid_is 0 false (0 ∷ 0 ∷ 0 ∷ 0 ∷ 0 ∷ 1 ∷ 0 ∷ 0 ∷ 0 ∷ 0 ∷ 0 ∷ 0 ∷ 0 ∷ 0 ∷ 0 ∷ 0 ∷ 0 ∷ 0 ∷ 0 ∷ 0 ∷ 0 ∷ 0 ∷ 0 ∷ 0 ∷ 0 ∷ 0 ∷ 0 ∷ []) } ∷
    record { asked = sid (text "[A-f9B0]   "); told = sid_is 0 true (0 ∷ 1 ∷ 0 ∷ 0 ∷ 0 ∷ 10 ∷ 0 ∷ 0 ∷ 0 ∷ 0 ∷ 0 ∷ 0 ∷ 0 ∷ 0 ∷ 0 ∷ 0 ∷ 0 ∷ 0 ∷ 0 ∷ 0 ∷ 0 ∷ 0 ∷ 0 ∷ 0 ∷ 0 ∷ 0 ∷ 0 ∷ []) } ∷
    record { asked = sid (text "[A b-F$]"); told = sid_is 0 false (0 ∷ 0 ∷ 0 ∷ 0 ∷ 0 ∷ 1 ∷ 0 ∷ 0 ∷ 0 ∷ 0 ∷ 0 ∷ 0 ∷ 0 ∷ 0 ∷ 0 ∷ 0 ∷ 0 ∷ 0 ∷ 0 ∷ 0 ∷ 0 ∷ 0 ∷ 0 ∷ 0 ∷ 0 ∷ 0 ∷ 1 ∷ []) } ∷
    record { asked = sid (text "[A-H]"); told = sid_is 4 false (0 ∷ 0 ∷ 0 ∷ 0 ∷ 0 ∷ 0 ∷ 0 ∷ 1 ∷ 0 ∷ 0 ∷ 0 ∷ 0 ∷ 0 ∷ 0 ∷ 0 ∷ 0 ∷ 0 ∷ 0 ∷ 0 ∷ 0 ∷ 0 ∷ 0 ∷ 0 ∷ 0 ∷ 0 ∷ 0 ∷ 0 ∷ []) } ∷
    record { asked = sid (text "[A-HH]"); told = number 3 } ∷
    record { asked = sid (text "[A-Ff]"); told = number 3 } ∷
    record { asked = sid (text "[A-B12F]"); told = number 3 } ∷
    record { asked = sid (text "[A-F$$]"); told = number 3 } ∷
    record { asked = sid (text "[A-$F]"); told = number 3 } ∷
    record { asked = sid (text "[-F]"); told = number 3 } ∷
    record { asked = sid (text "[A-F"); told = number 3 } ∷
    record { asked = sid (text "[A-F]x"); told = number 3 } ∷
    record { asked = sid (text "[A-]"); told = number 3 } ∷
    record { asked = sid (text "[A]"); told = number 3 } ∷
    record { asked = sid (text ""); told = number 3 } ∷
    record { asked = sid (text "[A-1F]"); told = number 3 } ∷
    record { asked = sid (text " [A-F]"); told = number 3 } ∷
    record { asked = sid (text "[A]-F]"); told = number 3 } ∷
    record { asked = turn_line false (text "fb  b A B   C D 007  "); told = says 0 (proposes (record { form = plain; type = 66; from = text "A"; at = text "B"; to = text "C"; bid = text "D"; size = 7 })) } ∷
    record { asked = turn_line true (text "FA P A B C D 999999999"); told = says 0 (proposes (record { form = message; type = 80; from = text "A"; at = text "B"; to = text "C"; bid = text "D"; size = 999999999 })) } ∷
    record { asked = turn_line true (text "Fb p a B c d 0"); told = says 0 (proposes (record { form = file; type = 80; from = text "a"; at = text "B"; to = text "c"; bid = text "d"; size = 0 })) } ∷
    record { asked = turn_line false (text "FB P A ABCDEF.ABCDEF.ABCDEF.ABCDEF.ABCDEF.ABC C D 1"); told = says 0 (proposes (record { form = plain; type = 80; from = text "A"; at = text "ABCDEF.ABCDEF.ABCDEF.ABCDEF.ABCDEF.ABC"; to = text "C"; bid = text "D"; size = 1 })) } ∷
    record { asked = turn_line false (text "FB P A ABCDEF.ABCDEF.ABCDEF.ABCDEF.ABCDEF.ABCD C D 1"); told = says 5 not_allowed } ∷
    record { asked = turn_line false (text "FB P A A.ABCDEF.ABCDEF.ABCDEF.ABCDEF.ABCD C D 1"); told = says 5 not_allowed } ∷
    record { asked = turn_line false (text "FB P A A..B C D 1"); told = says 5 not_allowed } ∷
    record { asked = turn_line false (text "FB P A A. C D 1"); told = says 5 not_allowed } ∷
    record { asked = turn_line false (text "FB P A .A C D 1"); told = says 5 not_allowed } ∷
    record { asked = turn_line false (text "FB P A A@B C D 1"); told = says 5 not_allowed } ∷
    record { asked = turn_line false (text "FB P A ABCDEFG C D 1"); told = says 5 not_allowed } ∷
    record { asked = turn_line false (text " FB P A B C D 1"); told = says 5 not_allowed } ∷
    record { asked = turn_line false (text "FB P A B C D 1234567890"); told = says 5 not_allowed } ∷
    record { asked = turn_line false (text "FB P A B C D 1 2"); told = says 5 not_allowed } ∷
    record { asked = turn_line false (text "FB P A B C D x"); told = says 5 not_allowed } ∷
    record { asked = turn_line false (text "FA P A B C D 1"); told = says 5 not_allowed } ∷
    record { asked = turn_line false (text "FB T A B C D 1"); told = says 5 not_allowed } ∷
    record { asked = turn_line false (text "FBB P A B C D 1"); told = says 5 not_allowed } ∷
    record { asked = turn_line false (text "FB P ABCDEFG B C D 1"); told = says 5 not_allowed } ∷
    record { asked = turn_line false (text "FB P A B C D23456789ABCD 1"); told = says 5 not_allowed } ∷
    record { asked = turn_line false (text "FB P A B C D "); told = says 5 not_allowed } ∷
    record { asked = turn_line false (text "FF X"); told = says 5 not_allowed } ∷
    record { asked = turn_line false (text "F"); told = says 5 not_allowed } ∷
    record { asked = turn_line false (text ""); told = says 5 not_allowed } ∷
    record { asked = turn_line false (text "FC P A B C D 1"); told = says 5 not_allowed } ∷
    record { asked = turn_line false (text "ff"); told = says 0 says_ff } ∷
    record { asked = turn_line false (text "Fq  "); told = says 0 says_fq } ∷
    record { asked = turn_line false (text "f>"); told = says 0 ends_block } ∷
    record { asked = turn_line false (text "f>   "); told = says 0 ends_block } ∷
    record { asked = turn_line false (text "F> 00"); told = says 0 (ends_summed 0) } ∷
    record { asked = turn_line false (text "F> FF"); told = says 0 (ends_summed 255) } ∷
    record { asked = turn_line true (text "f> a9"); told = says 0 (ends_summed 169) } ∷
    record { asked = turn_line false (text "F> 9A"); told = says 0 (ends_summed 154) } ∷
    record { asked = turn_line false (text "F> 4f  "); told = says 0 (ends_summed 79) } ∷
    record { asked = turn_line false (text "F> fA"); told = says 0 (ends_summed 250) } ∷
    record { asked = turn_line false (text "F>00"); told = says 5 not_allowed } ∷
    record { asked = turn_line false (text "F>  00"); told = says 5 not_allowed } ∷
    record { asked = turn_line false (text "F> 0"); told = says 5 not_allowed } ∷
    record { asked = turn_line false (text "F> 000"); told = says 5 not_allowed } ∷
    record { asked = turn_line false (text "F> 00 0"); told = says 5 not_allowed } ∷
    record { asked = turn_line false (text "F> 0 0"); told = says 5 not_allowed } ∷
    record { asked = turn_line false (text "F> 0G"); told = says 5 not_allowed } ∷
    record { asked = turn_line false (text "F> g0"); told = says 5 not_allowed } ∷
    record { asked = turn_line false (text "F> /0"); told = says 5 not_allowed } ∷
    record { asked = turn_line false (text "F> 0:"); told = says 5 not_allowed } ∷
    record { asked = turn_line false (text "F> @0"); told = says 5 not_allowed } ∷
    record { asked = turn_line false (text "F> 0`"); told = says 5 not_allowed } ∷
    record { asked = turn_line false (text " F> 00"); told = says 5 not_allowed } ∷
    record { asked = turn_line false (text "F>\t00"); told = says 5 not_allowed } ∷
    record { asked = turn_line false (text "F > 00"); told = says 5 not_allowed } ∷
    record { asked = turn_line false (text "FB> 00"); told = says 5 not_allowed } ∷
    record { asked = turn_line false (text "F< 00"); told = says 5 not_allowed } ∷
    record { asked = awaited 3 (text "fs -+=  "); told = signs (decline ∷ accept ∷ defer ∷ []) } ∷
    record { asked = awaited 3 (text "FS  -+="); told = number 7 } ∷
    record { asked = awaited 3 (text "FSX"); told = number 7 } ∷
    record { asked = awaited 3 (text "FS"); told = number 7 } ∷
    record { asked = awaited 3 (text "FS -+x"); told = number 7 } ∷
    record { asked = awaited 3 (text "FS -+=+"); told = number 7 } ∷
    record { asked = awaited 3 (text "fs-+="); told = number 7 } ∷
    record { asked = awaited 3 (text "FF"); told = number 5 } ∷
    record { asked = awaited 3 (text ""); told = number 5 } ∷
    record { asked = awaited 3 (text "F>"); told = number 5 } ∷
    record { asked = awaited 3 (text "F> 00"); told = number 5 } ∷
    record { asked = sid (text "F> 00"); told = number 3 } ∷
    record { asked = awaited 3 (text " FS -+="); told = number 5 } ∷
    record { asked = received 65535 message (2 ∷ []); told = heard none malformed } ∷
    record { asked = received 65535 message (1 ∷ 3 ∷ []); told = heard none malformed } ∷
    record { asked = received 65535 message (1 ∷ 89 ∷ []); told = heard none malformed } ∷
    record { asked = received 65535 message (1 ∷ 4 ∷ 65 ∷ 66 ∷ []); told = heard none malformed } ∷
    record { asked = received 65535 message (1 ∷ 5 ∷ 0 ∷ []); told = heard none malformed } ∷
    record { asked = received 65535 message (1 ∷ 32 ∷ 65 ∷ 0 ∷ []); told = heard none malformed } ∷
    record { asked = received 65535 message (1 ∷ 5 ∷ 65 ∷ 66 ∷ 0 ∷ 49 ∷ []); told = heard none malformed } ∷
    record { asked = received 65535 message (1 ∷ 5 ∷ 65 ∷ 66 ∷ 0 ∷ 0 ∷ []); told = heard none malformed } ∷
    record { asked = received 65535 message (1 ∷ 5 ∷ 65 ∷ 66 ∷ 0 ∷ 48 ∷ 48 ∷ []); told = heard none malformed } ∷
    record { asked = received 65535 message (1 ∷ 6 ∷ 65 ∷ 66 ∷ 0 ∷ 48 ∷ 0 ∷ []); told = heard none malformed } ∷
    record { asked = received 65535 message (1 ∷ 5 ∷ 65 ∷ 31 ∷ []); told = heard none malformed } ∷
    record { asked = received 65535 message (1 ∷ 4 ∷ 65 ∷ 0 ∷ 48 ∷ 0 ∷ 3 ∷ []); told = heard none malformed } ∷
    record { asked = received 65535 message (1 ∷ 4 ∷ 65 ∷ 0 ∷ 48 ∷ 0 ∷ 4 ∷ 1 ∷ []); told = heard none wrong_sum } ∷
    record { asked = received 1 message (1 ∷ 4 ∷ 65 ∷ 0 ∷ 48 ∷ 0 ∷ 2 ∷ 2 ∷ 65 ∷ 66 ∷ []); told = heard none no_room } ∷
    record { asked = received 65535 plain (13 ∷ []); told = heard none malformed } ∷
    record { asked = received 65535 plain (replicate 81 65); told = heard none malformed } ∷
    record { asked = received 65535 plain (65 ∷ 31 ∷ []); told = heard none malformed } ∷
    record { asked = received 65535 plain (65 ∷ 13 ∷ 66 ∷ 26 ∷ 10 ∷ []); told = heard none malformed } ∷
    record { asked = received 1 plain (65 ∷ 13 ∷ 66 ∷ 67 ∷ []); told = heard none no_room } ∷
    record { asked = received 65535 plain (replicate 80 65 ++ (13 ∷ [])); told = heard none (goes (in_body (replicate 80 65) [])) } ∷
    record { asked = received 65535 plain (65 ∷ 13 ∷ 10 ∷ 66 ∷ 26 ∷ 32 ∷ 32 ∷ 13 ∷ []); told = heard (some (record { heading = 65 ∷ []; body = 10 ∷ 66 ∷ [] })) (got (65 ∷ []) (10 ∷ 66 ∷ [])) } ∷
    record { asked = received 65535 message (1 ∷ 88 ∷ []); told = heard none (goes (in_head 88 [])) } ∷
    record { asked = received 1 message (1 ∷ 4 ∷ 65 ∷ 0 ∷ 48 ∷ 0 ∷ 2 ∷ 0 ∷ []); told = heard none (goes (in_data (65 ∷ []) [] 256)) } ∷
    record { asked = received 65535 file (1 ∷ 6 ∷ 65 ∷ 0 ∷ 48 ∷ 48 ∷ 48 ∷ 0 ∷ 4 ∷ 0 ∷ []); told = heard (some (record { heading = 65 ∷ []; body = [] })) (got (65 ∷ []) []) } ∷
    record { asked = received 65535 plain (201 ∷ 255 ∷ 128 ∷ 13 ∷ 233 ∷ 26 ∷ 13 ∷ []); told = heard (some (record { heading = 201 ∷ 255 ∷ 128 ∷ []; body = 233 ∷ [] })) (got (201 ∷ 255 ∷ 128 ∷ []) (233 ∷ [])) } ∷
    record { asked = turn_line false (text "FB P A B C " ++ (128 ∷ 233 ∷ 255 ∷ []) ++ text " 1"); told = says 0 (proposes (record { form = plain; type = 80; from = text "A"; at = text "B"; to = text "C"; bid = 128 ∷ 233 ∷ 255 ∷ []; size = 1 })) } ∷
    record { asked = proposed (1 ∷ 1 ∷ 1 ∷ 1 ∷ 1 ∷ 1 ∷ 1 ∷ []); told = number 5 } ∷
    record { asked = proposed (10240 ∷ 1 ∷ []); told = number 1 } ∷
    record { asked = sent plain (text "HI") (text "AB"); told = bytes (72 ∷ 73 ∷ 13 ∷ 65 ∷ 66 ∷ 26 ∷ 13 ∷ []) } ∷
    record { asked = one_bid (text "12_ab") (text "12_AB"); told = is_one true } ∷
    record { asked = one_bid (text "12_Ab") (text "12_aB"); told = is_one true } ∷
    record { asked = one_bid (text "AZ") (text "az"); told = is_one true } ∷
    record { asked = one_bid (text "[1") (text "{1"); told = is_one false } ∷
    record { asked = one_bid (text "@1") (text "`1"); told = is_one false } ∷
    record { asked = one_bid (text "^1") (text "~1"); told = is_one false } ∷
    record { asked = one_bid (text "_1") (127 ∷ 49 ∷ []); told = is_one false } ∷
    record { asked = one_bid (201 ∷ []) (233 ∷ []); told = is_one false } ∷
    record { asked = one_bid (192 ∷ []) (224 ∷ []); told = is_one false } ∷
    record { asked = one_bid (105 ∷ []) (233 ∷ []); told = is_one false } ∷
    record { asked = one_bid (text "12_ab") (text "12_a"); told = is_one false } ∷
    record { asked = one_bid (text "12_a") (text "12_AB"); told = is_one false } ∷
    record { asked = one_bid (text "12_ab") (text "12_ba"); told = is_one false } ∷
    []
