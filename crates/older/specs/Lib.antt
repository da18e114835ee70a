-- Files of before: as the first release wrote them, and between an older machine and this one. No code and no other theory of files rests
-- on this.
--
--   FirstRelease  unloaded_file w places macros     the file before there were loads
--            first_head m k, first_file places macros the head and the file of the first release, without weights
--   Older    older, older_bytes, Old pins macros     an older machine's bounds and longest file, and lists that it takes
--            left_by b w pins macros lent            what a machine's writer leaves in lent bytes
--            Reads b bytes answer                   its reader's answer, where it is lent enough
--            OlderOf, OldAndNew                     what an older machine says to today's files, and all that is said of both
pub mod FirstRelease
pub mod Older
