-- Where each thing lies in lent memory, and how long it is (docs/MEMORY.md has the same as tables).
use Rattle.std.specs.Prelude.{ℕ, ◌+◌, ◌-◌, ◌*◌}
use Rattle.grammar.specs.Fields as fields
use Rattle.grammar.specs.Lines as lines
use Rattle.grammar.specs.Turns as turns
use Rattle.mail.specs.Mail as mail

-- ---------------------------------------------------------------- The longest field of each kind; 01, "Fields"

abbrev pub call_max : ℕ
call_max = fields.call_max

abbrev pub at_max : ℕ
at_max = fields.at_max

-- what follows the first `.` of an at
abbrev pub hierarchy_max : ℕ
hierarchy_max = fields.hierarchy_max

abbrev pub bid_max : ℕ
bid_max = fields.bid_max

abbrev pub heading_max : ℕ
heading_max = fields.heading_max

abbrev pub body_max : ℕ
body_max = fields.body_max

-- ---------------------------------------------------------------- A number that is no byte lies in two, four or eight, the lowest first

abbrev pub two_bytes : ℕ
two_bytes = 2

abbrev pub four_bytes : ℕ
four_bytes = 4

abbrev pub eight_bytes : ℕ
eight_bytes = 8

-- ---------------------------------------------------------------- The fields of a message, from where they begin; a proposal and an inbox entry begin with them, a record after its states. A field is a byte for its length, then room for the longest

abbrev pub form_at : ℕ
form_at = 0

abbrev pub type_at : ℕ
type_at = form_at + 1

abbrev pub from_at : ℕ
from_at = type_at + 1

abbrev pub at_at : ℕ
at_at = from_at + 1 + call_max

abbrev pub to_at : ℕ
to_at = at_at + 1 + at_max

abbrev pub bid_at : ℕ
bid_at = to_at + 1 + call_max

abbrev pub fields_size : ℕ
fields_size = bid_at + 1 + bid_max

-- ---------------------------------------------------------------- A proposal in session memory: the fields, the announced size

abbrev pub proposal_size_at : ℕ
proposal_size_at = fields_size

abbrev pub proposal_len : ℕ
proposal_len = proposal_size_at + four_bytes

-- ---------------------------------------------------------------- A record of the table: its states, a byte a partner, then a proposal's parts, then where title, name and body lie, each a start of 4 bytes and a length

-- "one state a partner, 0 to 7"
abbrev pub partners : ℕ
partners = 8

abbrev pub states_len : ℕ
states_len = partners

-- where its states begin, and where a proposal's parts do
abbrev pub record_states : ℕ
record_states = 0

abbrev pub record_fields : ℕ
record_fields = record_states + states_len

abbrev pub record_form : ℕ
record_form = record_fields + form_at

abbrev pub record_type : ℕ
record_type = record_fields + type_at

abbrev pub record_from : ℕ
record_from = record_fields + from_at

abbrev pub record_at_field : ℕ
record_at_field = record_fields + at_at

abbrev pub record_to : ℕ
record_to = record_fields + to_at

abbrev pub record_bid : ℕ
record_bid = record_fields + bid_at

abbrev pub record_size_at : ℕ
record_size_at = record_fields + proposal_size_at

abbrev pub record_title : ℕ
record_title = record_fields + proposal_len

abbrev pub record_title_length : ℕ
record_title_length = record_title + four_bytes

abbrev pub record_name : ℕ
record_name = record_title_length + 1

abbrev pub record_name_length : ℕ
record_name_length = record_name + four_bytes

abbrev pub record_body : ℕ
record_body = record_name_length + 1

abbrev pub record_body_length : ℕ
record_body_length = record_body + four_bytes

abbrev pub record_len : ℕ
record_len = record_body_length + two_bytes

-- ---------------------------------------------------------------- A known BID: a field

abbrev pub known_len : ℕ
known_len = 1 + bid_max

-- ---------------------------------------------------------------- A message of the inbox: the fields, the heading, the body's start and length

abbrev pub entry_heading : ℕ
entry_heading = fields_size

abbrev pub entry_body : ℕ
entry_body = entry_heading + 1 + heading_max

abbrev pub entry_body_length : ℕ
entry_body_length = entry_body + four_bytes

abbrev pub entry_len : ℕ
entry_len = entry_body_length + two_bytes

-- ---------------------------------------------------------------- Session memory: the mark's four letters, the sizes that open kept

abbrev pub mark_at : ℕ
mark_at = 0

abbrev pub size_table : ℕ
size_table = mark_at + four_bytes

abbrev pub size_titles : ℕ
size_titles = size_table + eight_bytes

abbrev pub size_names : ℕ
size_names = size_titles + eight_bytes

abbrev pub size_bodies : ℕ
size_bodies = size_names + eight_bytes

abbrev pub size_known : ℕ
size_known = size_bodies + eight_bytes

abbrev pub size_inbox : ℕ
size_inbox = size_known + eight_bytes

abbrev pub size_store : ℕ
size_store = size_inbox + eight_bytes

-- ---------------------------------------------------------------- Session memory: the numbers of the state. Bytes between numbers_end and arrays_at are free: no call reads or writes them

-- a list of up to five: a byte for how many, then room for five
abbrev pub five_len : ℕ
five_len = 1 + turns.block_limit

abbrev pub numbers_start : ℕ
numbers_start = size_store + eight_bytes

abbrev pub phase_at : ℕ
phase_at = numbers_start

abbrev pub ff_at : ℕ
ff_at = phase_at + 1

abbrev pub framed_at : ℕ
framed_at = ff_at + 1

abbrev pub after_cr_at : ℕ
after_cr_at = framed_at + 1

abbrev pub first_at : ℕ
first_at = after_cr_at + 1

abbrev pub then_at : ℕ
then_at = first_at + 1

abbrev pub kept_at : ℕ
kept_at = then_at + 1

abbrev pub current_at : ℕ
current_at = kept_at + 1

abbrev pub proposals_at : ℕ
proposals_at = current_at + 1

abbrev pub ours_at : ℕ
ours_at = proposals_at + 1

abbrev pub sending_at : ℕ
sending_at = ours_at + five_len

abbrev pub signs_at : ℕ
signs_at = sending_at + five_len

abbrev pub place_at : ℕ
place_at = signs_at + five_len

abbrev pub length_at : ℕ
length_at = place_at + 1

abbrev pub head_at : ℕ
head_at = length_at + 1

abbrev pub offset_at : ℕ
offset_at = head_at + 1

abbrev pub sum_at : ℕ
sum_at = offset_at + 1

abbrev pub line_length_at : ℕ
line_length_at = sum_at + 1

abbrev pub left_at : ℕ
left_at = line_length_at + two_bytes

abbrev pub body_at : ℕ
body_at = left_at + two_bytes

abbrev pub pos_at : ℕ
pos_at = body_at + four_bytes

abbrev pub used_at : ℕ
used_at = pos_at + eight_bytes

-- the tail of the numbers: a number that comes later takes the next bytes here, and none of those before it moves
abbrev pub tail_at : ℕ
tail_at = used_at + eight_bytes

abbrev pub block_sum_at : ℕ
block_sum_at = tail_at

abbrev pub level_at : ℕ
level_at = block_sum_at + 1

abbrev pub partner_at : ℕ
partner_at = level_at + 1

-- what the front panel shows (02, Q-3): the records that wait and the sum of their announced sizes, then the tally sheet
abbrev pub tally_waiting_at : ℕ
tally_waiting_at = partner_at + 1

abbrev pub tally_sizes_at : ℕ
tally_sizes_at = tally_waiting_at + 1

abbrev pub tally_proposed_at : ℕ
tally_proposed_at = tally_sizes_at + four_bytes

abbrev pub tally_forwarded_at : ℕ
tally_forwarded_at = tally_proposed_at + 1

abbrev pub tally_declined_at : ℕ
tally_declined_at = tally_forwarded_at + 1

abbrev pub tally_deferred_at : ℕ
tally_deferred_at = tally_declined_at + 1

abbrev pub tally_unsettled_at : ℕ
tally_unsettled_at = tally_deferred_at + 1

abbrev pub numbers_end : ℕ
numbers_end = tally_unsettled_at + 1

abbrev pub tail_len : ℕ
tail_len = numbers_end - tail_at

abbrev pub numbers_len : ℕ
numbers_len = numbers_end - numbers_start

-- ---------------------------------------------------------------- Session memory: the arrays of the state, which stay there; where each begins among them, and how long it is. Bytes from arrays_end on are free, too

abbrev pub arrays_at : ℕ
arrays_at = 160

abbrev pub free_len : ℕ
free_len = arrays_at - numbers_end

-- a flag for each record that a table may have
abbrev pub deferred_len : ℕ
deferred_len = mail.record_limit

abbrev pub heading_len : ℕ
heading_len = heading_max

abbrev pub line_len : ℕ
line_len = lines.line_limit

-- the partner's proposals
abbrev pub block_len : ℕ
block_len = turns.block_limit * proposal_len

abbrev pub deferred_at : ℕ
deferred_at = 0

abbrev pub heading_at : ℕ
heading_at = deferred_at + deferred_len

abbrev pub line_at : ℕ
line_at = heading_at + heading_len

abbrev pub block_at : ℕ
block_at = line_at + line_len

abbrev pub after_block : ℕ
after_block = block_at + block_len

abbrev pub arrays_len : ℕ
arrays_len = after_block

abbrev pub arrays_end : ℕ
arrays_end = arrays_at + arrays_len

abbrev pub session_len : ℕ
session_len = 1024
