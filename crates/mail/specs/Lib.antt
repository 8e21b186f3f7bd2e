-- What the shelf holds, in lists: the records of the table and the messages of the inbox. The session and the log both speak of these, and
-- share nothing else but the grammar: what becomes of them (accepted, marked, declined, message_of) is said here for the session; the log has
-- its own words for it.
pub mod Mail
pub mod Tally
