-- The text of replies.
use Rattle.std.specs.Prelude.{ℕ, codes, List, [], ◌∷◌, ◌++◌, length, map, Option, Some, None, ℤ}
use Rattle.std.specs.List.{flat_map}
use Rattle.std.specs.Fmt.{decimal, signed_decimal}
use Rattle.sb_relation.specs.Db.{Key, Row}
use Rattle.sb_relation.specs.Images.{Entry}
use Rattle.sb_fold.specs.declared.refusal.Room.{Room}
use Rattle.sb_fold.specs.declared.refusal.Room.TheVariants.{Data, Temp, Log, Gates}
use Rattle.sb_fold.specs.declared.refusal.Refusal.{Refusal}
use Rattle.sb_fold.specs.declared.refusal.Refusal.TheVariants as refusal
use Rattle.sb_plain.specs.declared.reply.Reply.{Reply}
use Rattle.sb_plain.specs.declared.reply.Reply.TheVariants as reply
use Rattle.sb_plain.specs.Values.{key_text}
use Rattle.sb_plain.specs.Printing.{spaced, values_text}

-- ---- refusals
abbrev pub room_text : Room → List ℕ
room_text (Data used total) = spaced (codes "data" ∷ decimal used ∷ decimal total ∷ [])
room_text (Temp used total) = spaced (codes "temp" ∷ decimal used ∷ decimal total ∷ [])
room_text (Log used need total) = spaced (codes "log" ∷ decimal used ∷ decimal need ∷ decimal total ∷ [])
room_text (Gates used total) = spaced (codes "gates" ∷ decimal used ∷ decimal total ∷ [])

abbrev pub refusal_words : Refusal → List (List ℕ)
refusal_words (refusal.Syntax column) = codes "syntax" ∷ decimal column ∷ []
refusal_words refusal.Down = codes "down" ∷ []
refusal_words refusal.State = codes "state" ∷ []
refusal_words (refusal.NoRelation name) = codes "norelation" ∷ name ∷ []
refusal_words (refusal.Exists name) = codes "exists" ∷ name ∷ []
refusal_words (refusal.NoName name) = codes "noname" ∷ name ∷ []
refusal_words (refusal.NoExtension code) = codes "noextension" ∷ decimal code ∷ []
refusal_words (refusal.InUse relation name) = codes "inuse" ∷ relation ∷ name ∷ []
refusal_words refusal.Mistyped = codes "type" ∷ []
refusal_words (refusal.TooLong relation) = codes "toolong" ∷ relation ∷ []
refusal_words refusal.Mixed = codes "mixed" ∷ []
refusal_words refusal.Limit = codes "limit" ∷ []
refusal_words (refusal.NoRecord relation) = codes "norecord" ∷ relation ∷ []
refusal_words (refusal.Duplicate relation) = codes "duplicate" ∷ relation ∷ []
refusal_words (refusal.Veto relation name) = codes "veto" ∷ relation ∷ name ∷ []
refusal_words (refusal.Range relation) = codes "range" ∷ relation ∷ []
refusal_words refusal.Depth = codes "depth" ∷ []
refusal_words refusal.DeferLimit = codes "deferlimit" ∷ []
refusal_words (refusal.Room room) = codes "room" ∷ room_text room ∷ []
refusal_words (refusal.Damaged page) = codes "damaged" ∷ decimal page ∷ []
refusal_words refusal.Fault = codes "fault" ∷ []
refusal_words refusal.NoMemory = codes "nomemory" ∷ []

abbrev pub refusal_text : Refusal → List ℕ
refusal_text r = spaced (codes "!" ∷ refusal_words r)

-- ---- replies
abbrev pub own_key_text : Option Key → List ℕ
own_key_text None = []
own_key_text (Some key) = codes " " ++ key_text key

abbrev pub pick_text : Key → List ℕ
pick_text pick = codes " +" ++ key_text pick

abbrev pub count_line : ℕ → List ℕ
count_line n = codes "ok " ++ decimal n ++ codes "\n"

abbrev pub row_line : Key × Row → List ℕ
row_line row = spaced (key_text row.0 ∷ values_text row.1 ∷ []) ++ codes "\n"

abbrev pub entry_line : Entry → List ℕ
entry_line entry = spaced (key_text entry.0 ∷ key_text entry.1 ∷ []) ++ codes "\n"

abbrev pub sums_line : List ℤ → List ℕ
sums_line [] = []
sums_line (sum ∷ sums) = spaced (codes "sum" ∷ map signed_decimal (sum ∷ sums)) ++ codes "\n"

-- the text of a reply: lines with their ends
abbrev pub reply_text : Reply → List ℕ
reply_text (reply.Done key picks) = codes "ok" ++ own_key_text key ++ flat_map pick_text picks ++ codes "\n"
reply_text (reply.Count count picks) = codes "ok " ++ decimal count ++ flat_map pick_text picks ++ codes "\n"
reply_text (reply.Rows rows) = flat_map row_line rows ++ count_line (length rows)
reply_text (reply.Entries image) = flat_map entry_line image.entries ++ sums_line image.sums ++ count_line (length image.entries)
reply_text (reply.Lines lines) = flat_map (λ line. line ++ codes "\n") lines ++ count_line (length lines)
reply_text (reply.Refused r) = refusal_text r ++ codes "\n"

-- the text of replies, one behind the other
abbrev pub text_of : List Reply → List ℕ
text_of replies = flat_map reply_text replies
