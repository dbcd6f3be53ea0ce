-- The text of each refusal and of each reply.
use Rattle.std.specs.Prelude.{◌≡◌, refl, codes, List, [], ◌∷◌, map, Some, None, pos, negsuc}
use Rattle.std.specs.Fmt.{digits}
use Rattle.hex.specs.Hex.{encode_with}
use Rattle.sb_value.specs.declared.value.Value.TheVariants.{Text}
use Rattle.sb_fold.specs.declared.refusal.Room.TheVariants.{Data, Temp, Log, Gates}
use Rattle.sb_fold.specs.declared.refusal.Refusal.{Refusal}
use Rattle.sb_fold.specs.declared.refusal.Refusal.TheVariants as refusal
use Rattle.sb_plain.specs.declared.reply.Reply.{Reply}
use Rattle.sb_plain.specs.declared.reply.Reply.TheVariants as reply
use Rattle.sb_plain.specs.Text.{refusal_text, reply_text, text_of}
use Rattle.sb_pinned.proofs.Samples.{int, one, a, b, t}

-- in the order of their numbers
abbrev refusals : List Refusal
refusals =
    refusal.Syntax 12
    ∷ refusal.Down
    ∷ refusal.State
    ∷ refusal.NoRelation t
    ∷ refusal.Exists a
    ∷ refusal.NoName b
    ∷ refusal.NoExtension 1000
    ∷ refusal.InUse t a
    ∷ refusal.Mistyped
    ∷ refusal.TooLong t
    ∷ refusal.Mixed
    ∷ refusal.Limit
    ∷ refusal.NoRecord t
    ∷ refusal.Duplicate t
    ∷ refusal.Veto t a
    ∷ refusal.Range t
    ∷ refusal.Depth
    ∷ refusal.DeferLimit
    ∷ refusal.Room (Data 64 65)
    ∷ refusal.Room (Temp 1 16384)
    ∷ refusal.Room (Log 20 3 22)
    ∷ refusal.Room (Gates 65535 65536)
    ∷ refusal.Damaged 7
    ∷ refusal.Fault
    ∷ refusal.NoMemory
    ∷ []

texts_of_refusals :
    map refusal_text refusals
    ≡ codes "! syntax 12"
    ∷ codes "! down"
    ∷ codes "! state"
    ∷ codes "! norelation t"
    ∷ codes "! exists a"
    ∷ codes "! noname b"
    ∷ codes "! noextension 1000"
    ∷ codes "! inuse t a"
    ∷ codes "! type"
    ∷ codes "! toolong t"
    ∷ codes "! mixed"
    ∷ codes "! limit"
    ∷ codes "! norecord t"
    ∷ codes "! duplicate t"
    ∷ codes "! veto t a"
    ∷ codes "! range t"
    ∷ codes "! depth"
    ∷ codes "! deferlimit"
    ∷ codes "! room data 64 65"
    ∷ codes "! room temp 1 16384"
    ∷ codes "! room log 20 3 22"
    ∷ codes "! room gates 65535 65536"
    ∷ codes "! damaged 7"
    ∷ codes "! fault"
    ∷ codes "! nomemory"
    ∷ []
unfolding digits
texts_of_refusals = refl

-- keys that are picked stand behind the own key, sums behind the entries
abbrev replies : List Reply
replies =
    reply.Done None []
    ∷ reply.Done (Some (1 ∷ 171 ∷ [])) []
    ∷ reply.Done (Some (1 ∷ [])) ((2 ∷ []) ∷ (3 ∷ []) ∷ [])
    ∷ reply.Done None ((2 ∷ []) ∷ [])
    ∷ reply.Count 12 ((2 ∷ []) ∷ (3 ∷ []) ∷ [])
    ∷ reply.Rows ((1 ∷ [], int 5 ∷ Text (codes "it's") ∷ []) ∷ (2 ∷ [], one 6) ∷ [])
    ∷ reply.Entries (record { entries = (1 ∷ [], 2 ∷ []) ∷ []; sums = pos 3 ∷ negsuc 3 ∷ [] })
    ∷ reply.Entries (record { entries = []; sums = [] })
    ∷ reply.Lines (a ∷ b ∷ [])
    ∷ reply.Refused refusal.Limit
    ∷ []

texts_of_replies :
    map reply_text replies
    ≡ codes "ok\n"
    ∷ codes "ok @01ab\n"
    ∷ codes "ok @01 +@02 +@03\n"
    ∷ codes "ok +@02\n"
    ∷ codes "ok 12 +@02 +@03\n"
    ∷ codes "@01 (5, 'it''s')\n@02 (6)\nok 2\n"
    ∷ codes "@01 @02\nsum 3 -4\nok 1\n"
    ∷ codes "ok 0\n"
    ∷ codes "a\nb\nok 2\n"
    ∷ codes "! limit\n"
    ∷ []
unfolding digits encode_with
texts_of_replies = refl

replies_stand_behind_each_other : text_of (reply.Done None [] ∷ reply.Refused refusal.Depth ∷ []) ≡ codes "ok\n! depth\n"
replies_stand_behind_each_other = refl
