-- How designs break the rules: what `docs/RULES.md` says of practice.
use Rattle.std.specs.Prelude.{ℕ, ◌==◌, if◌then◌else◌, List, [], codes}

-- rules 34 to 40
abbrev pub order_design : ℕ → List ℕ
order_design rule =
    if rule == 34 then codes "A bridge answers barriers by itself once the older writes have left it. Beyond it\n                 they can still be overtaken, and a flag is seen before the data that it announces."
    else (if rule == 35 then codes "Requests are sorted into a queue for each bank before the barrier is looked at,\n                 and a younger read in another queue goes first."
    else (if rule == 36 then codes "A distributor of messages drops one under back-pressure, sends it back to its\n                 sender, or lets a Sync of one master overtake another's invalidation. Or it\n                 arbitrates for each snoop anew, and something else comes between the two parts of\n                 a message."
    else (if rule == 37 then codes "The message is answered as soon as it is queued. Its sender goes on and takes an\n                 invalidation for done that has not reached the other cores."
    else (if rule == 38 then codes "The counter of Syncs is off by one after two come in a row, and a completion too\n                 many ends a later Sync of another core early."
    else (if rule == 39 then codes "The collector counts completions and does not remember from which port they came:\n                 two of one port stand for one of each. The page is then reused while a core still\n                 has the old translation."
    else (if rule == 40 then codes "A driver of a test bench drops an operation, or notes two in the wrong order, and\n                 the scoreboard compares with the wrong ones ever after."
    else []))))))

-- rules 29 to 40
abbrev pub cache_design : ℕ → List ℕ
cache_design rule =
    if rule == 29 then codes "A cache makes room by dropping a way whose dirty bit has not been written yet, and\n                 a store is lost. Or it turns a shared line unique by itself, as the tag of the\n                 last owner was left in place."
    else (if rule == 30 then codes "The tag lookup of a load and the invalidation by a snoop meet in one cycle, and\n                 the load takes the way that has just been given up."
    else (if rule == 31 then codes "A store waits in the store buffer and is not forwarded to a younger load; or a\n                 late fill writes over it."
    else (if rule == 32 then codes "A store hits on a line in SharedDirty, as dirty is taken for writable: the other\n                 sharers keep the old data. Or it goes into a line whose WriteBack has already\n                 taken its data, and is lost with it."
    else (if rule == 33 then codes "The local monitor is not cleared when a snoop takes the line, or not by the\n                 exclusive store itself: an increment is lost, or one load serves two stores."
    else order_design rule))))

-- rules 24 to 40
abbrev pub write_design : ℕ → List ℕ
write_design rule =
    if rule == 24 then codes "A write goes to memory before the last snoop is answered, and the dirty line that\n                 this answer brings is then written over it. Or a WriteBack in a side queue lands\n                 after newer data that are on their way."
    else (if rule == 25 then codes "A partial write is merged into old memory though a snoop brought the line dirty:\n                 the bytes that it did not write are lost. Or a read-modify-write for ECC takes the\n                 strobes of the next beat."
    else (if rule == 26 then codes "A buffer answers early, while others can still read the old line; or the response\n                 comes back under the identifier of another write."
    else (if rule == 27 then codes "As with RACK, a pulse is doubled or comes early, and a snoop meets a line that is\n                 still on its way out."
    else (if rule == 28 then codes "The tag is not written when a WriteBack ends, and the cache goes on hitting on a\n                 line that it no longer owns. Or a WriteClean of a line that is shared by now ends\n                 as unique."
    else cache_design rule))))

-- rules 18 to 40
abbrev pub read_design : ℕ → List ℕ
read_design rule =
    if rule == 18 then codes "Memory is read ahead of the snoops to save time, and the early data are sent\n                 before the last cache has answered. Or a cache passes a dirty line on for a\n                 ReadClean, and the interconnect, which should have written it to memory, drops it."
    else (if rule == 19 then codes "The interconnect latches the bits of the first answer and forgets to merge in\n                 those of the second: the requester takes the line as unique while another cache\n                 still has it."
    else (if rule == 20 then codes "The speculative read of memory wins against the data of a snoop, and the requester\n                 gets what memory had before. Or the source of a burst is switched in the middle,\n                 as a write to the line lands: half old, half new."
    else (if rule == 21 then codes "A monitor that compares a part of the address, or forgets to end the other ports'\n                 registrations, tells two masters that their exclusive stores passed: both hold the\n                 lock."
    else (if rule == 22 then codes "RACK is a pulse without a handshake. A register slice or a clock crossing that\n                 widens it gives two, and the interconnect sets a line free before its transaction\n                 has ended."
    else (if rule == 23 then codes "A CleanUnique waits, a snoop takes the line away, and the cache still goes to\n                 unique when the response comes: it owns data that have been stored to elsewhere.\n                 Or PassDirty is overlooked, and the line is dropped later as if it were clean."
    else write_design rule)))))

-- rules 11 to 40
abbrev pub snoop_design : ℕ → List ℕ
snoop_design rule =
    if rule == 11 then codes "The data queue of the write channel lost its place after a stalled AW, and every\n                 burst from then on goes to its neighbour. Or the eviction buffer was filled before\n                 the last store had reached the data array, and old data are written back."
    else (if rule == 12 then codes "The line is set free at the last transfer and not at RACK. The next transaction\n                 snoops the requester while the data of the first are still on their way to it,\n                 finds nothing, and there are two owners."
    else (if rule == 13 then codes "A snoop is replayed after a retry, or sent from a snoop filter entry of a\n                 transaction that has ended. Or it overtakes the response to a WriteBack, and the\n                 cache answers for a line that it is just letting go."
    else (if rule == 14 then codes "A queue of answers repeats its last entry after a stall, or a reset that reached\n                 only one side of a clock crossing leaves one in it. From then on every answer\n                 belongs to the snoop before."
    else (if rule == 15 then codes "The tag is read, and a store makes the line dirty before the answer goes out: it\n                 says clean, and gives the line up. Nobody has the store any more. Or the cache\n                 keeps the line shared and does not say so."
    else (if rule == 16 then codes "The snoop hits the line in the eviction buffer and takes the dirty data along, and\n                 the WriteBack goes on all the same. Its data reach memory after those of the new\n                 owner, who has stored and written back meanwhile."
    else (if rule == 17 then codes "The answer comes from the tags, and the data are read later, after a store of the\n                 core or after the way was filled anew. Or the beats of two answers are mixed where\n                 they share one buffer."
    else read_design rule))))))

-- the text for a rule: none where there is no such rule, or nothing is told of it
abbrev pub in_a_design : ℕ → List ℕ
in_a_design rule =
    if rule == 1 then codes "A snoop filter keeps one presence bit for each port with a cache, and its index is\n                 taken for the number of the port: an I/O master is snooped, which can never\n                 answer. Or a monitor is bound to the wrong interface."
    else (if rule == 2 then codes "AxSNOOP comes from the cache and AxDOMAIN from the page table, by two paths: after\n                 a change of the page attributes they no longer fit together. On the way back, an\n                 error from a hole in the address map reaches a cache that was never made for one."
    else (if rule == 3 then codes "A request carries the address of the critical word, and a comparator somewhere\n                 looks at all of its bits: two requests of one line pass for two lines, and neither\n                 waits for the other."
    else (if rule == 4 then codes "An identifier goes back to the free list at the last transfer and not at the\n                 acknowledge, or at the first of two responses. The next response then lands in the\n                 wrong miss register."
    else (if rule == 5 then codes "A prefetch and a demand miss for one line sit in two miss registers that do not\n                 see each other; or the line is fetched again while its WriteBack is still on the\n                 way, and the fetch is answered with the old memory."
    else (if rule == 6 then codes "An eviction looks at the tag, waits for the AW channel, and does not look again:\n                 meanwhile a snoop has taken the line, and the WriteBack puts old data over those\n                 of the new owner."
    else (if rule == 7 then codes "The lock bit comes from the instruction and the kind from the cache: an exclusive\n                 load that a prefetch for stores has turned into a ReadUnique still carries it."
    else (if rule == 8 then codes "A page is mapped twice with different attributes: one mapping goes to memory past\n                 the caches, and reads what the other has not written yet."
    else (if rule == 9 then codes "A bridge pairs the halves of barriers by identifier or by arrival, so that a\n                 memory barrier on one channel meets a synchronisation barrier on the other. A\n                 second Sync is sent before the first has been completed, and one completion ends\n                 both."
    else (if rule == 10 then codes "The write buffer and the eviction engine share the channel. The WriteUnique waits\n                 for a snoop, the snooped line for its WriteBack, and the WriteBack stands behind\n                 the WriteUnique: deadlock."
    else snoop_design rule)))))))))
