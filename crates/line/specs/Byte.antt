-- What the code says of a byte, in the words of the grammar.
use Rattle.grammar.specs.Lines.{LineByte, dropped, ends, grows, overruns}
use Rattle.line.specs.declared.LineByte as code

-- The grammar's name for each case; 01's number for it is the grammar's line_byte_number.
abbrev pub line_byte_is : code.LineByte → LineByte
line_byte_is code.LineByte.Dropped = dropped
line_byte_is code.LineByte.Ends = ends
line_byte_is code.LineByte.Grows = grows
line_byte_is code.LineByte.Overruns = overruns
