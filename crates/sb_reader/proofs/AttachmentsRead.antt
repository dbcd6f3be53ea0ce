-- Attachments: reading them reads their grammar.
use Rattle.std.proofs.Common.{ℕ, List, [], ◌∷◌, codes, refl, sym, subst, inl, inr, Bool, ℤ}
use Rattle.sb_pred.specs.Tree.{Tree}
use Rattle.sb_rule.specs.declared.rule.Side.TheVariants.{Main, Mirror}
use Rattle.sb_rule.specs.declared.rule.Mode.{Mode}
use Rattle.sb_rule.specs.declared.rule.Mode.TheVariants.{Restrict, Cascade}
use Rattle.sb_rule.specs.declared.rule.Event.{Event}
use Rattle.sb_rule.specs.declared.rule.Event.TheVariants as event
use Rattle.sb_rule.specs.declared.action.Action.{Action}
use Rattle.sb_rule.specs.declared.rule.Rule.{Rule}
use Rattle.sb_rule.specs.declared.rule.Rule.TheVariants.{TreeIndex, HashIndex, JoinIndex, Stats, Check, Refers, Trigger, Foreign}
use Rattle.sb_plain.specs.declared.command.Command.{Command}
use Rattle.sb_plain.specs.declared.command.Command.TheVariants as command
use Rattle.sb_tokens.specs.declared.token.Sign.TheVariants.{Open, Close}
use Rattle.sb_tokens.specs.declared.token.Token.{Token}
use Rattle.sb_tokens.specs.declared.token.Token.TheVariants as token
use Rattle.sb_language.specs.Lang.{◌⨾◌, ◌∣◌, nothing}
use Rattle.sb_grammar.specs.Grammar.{Piece, names, key, predicate, bare_term, full_term, positive, word_if, mode, event_word, triggered, foreign_code, attachment}
use Rattle.sb_language.proofs.Front.{Reads}
use Rattle.sb_language.proofs.Choice.{Image, Alike, avoids_or, avoids_sign}
use Rattle.sb_language.proofs.Parts.{Part, part_same}
use Rattle.sb_phrases.specs.declared.form.Form.TheVariants.{Bare, Full}
use Rattle.sb_phrases.specs.Phrases.{is_word}
use Rattle.sb_reader.specs.Commands.{mode_at, event_at, tree_index_at, hash_index_at, join_index_at, stats_at, check_at, refers_at, trigger_at, foreign_at, rule_at, attachment_at}
use Rattle.sb_phrases.proofs.Joined.{then_reads, ended_reads, image_part, or_part}
use Rattle.sb_phrases.proofs.PiecesRead.{Word, part_word, part_mark, part_name, part_key, part_int, part_positive, int}
use Rattle.sb_phrases.proofs.PredicatesRead.{reads_predicate, goes_predicate, and_or}
use Rattle.sb_phrases.proofs.PhrasesRead.{Keyed, Signed, Named, part_foreign_code, Site, Sited, part_place, part_names, reads_word_if, avoids_word_if, marked_word, avoids_word}
use Rattle.sb_reader.proofs.ActionsRead.{reads_triggered, goes_triggered, where_and}
use Rattle.sb_reader.proofs.Branches.{Branch, Branches, keyed, last, or, reads_branches}

-- ---- what happens to rows that refer
abbrev restrict : Unit {0} → Mode
restrict x = Restrict

abbrev cascade : Unit {0} → Mode
cascade x = Cascade

abbrev Modes : Mode → Piece
Modes m = Image restrict (Word (codes "restrict")) m ∣ Image cascade (Word (codes "cascade")) m

modes_alike : Alike Modes mode
modes_alike = record { to = to; from = from }
  where
    to : (m : Mode) (us : List Token) → Modes m us → mode m us
    to m us (inl x) = subst (λ n. mode n us) (sym x.is) x.spelled
    to m us (inr x) = subst (λ n. mode n us) (sym x.is) x.spelled

    from : (m : Mode) (us : List Token) → mode m us → Modes m us
    from Restrict us x = inl (record { source = tt; is = refl; spelled = x })
    from Cascade us x = inr (record { source = tt; is = refl; spelled = x })

part_mode : Part mode mode_at
unfolding mode_at
part_mode = part_same Modes mode mode_at modes_alike
    (or_part (is_word (codes "restrict")) (marked_word (codes "restrict") restrict) (avoids_word (is_word (codes "restrict")) (codes "cascade") cascade refl) (image_part restrict (part_word (codes "restrict"))) (image_part cascade (part_word (codes "cascade"))))

-- ---- events
abbrev inserted : Unit {0} → Event
inserted x = event.Insert

abbrev deleted : Unit {0} → Event
deleted x = event.Delete

abbrev updated : Unit {0} → Event
updated x = event.Update

abbrev OtherEvents : Event → Piece
OtherEvents e = Image deleted (Word (codes "delete")) e ∣ Image updated (Word (codes "update")) e

abbrev Events : Event → Piece
Events e = Image inserted (Word (codes "insert")) e ∣ OtherEvents e

events_alike : Alike Events event_word
events_alike = record { to = to; from = from }
  where
    to : (e : Event) (us : List Token) → Events e us → event_word e us
    to e us (inl x) = subst (λ d. event_word d us) (sym x.is) x.spelled
    to e us (inr (inl x)) = subst (λ d. event_word d us) (sym x.is) x.spelled
    to e us (inr (inr x)) = subst (λ d. event_word d us) (sym x.is) x.spelled

    from : (e : Event) (us : List Token) → event_word e us → Events e us
    from event.Insert us x = inl (record { source = tt; is = refl; spelled = x })
    from event.Delete us x = inr (inl (record { source = tt; is = refl; spelled = x }))
    from event.Update us x = inr (inr (record { source = tt; is = refl; spelled = x }))

part_event : Part event_word event_at
unfolding event_at
part_event = part_same Events event_word event_at events_alike
    (or_part (is_word (codes "insert")) (marked_word (codes "insert") inserted)
    (avoids_or (Image deleted (Word (codes "delete"))) (Image updated (Word (codes "update"))) (is_word (codes "insert")) (avoids_word (is_word (codes "insert")) (codes "delete") deleted refl) (avoids_word (is_word (codes "insert")) (codes "update") updated refl))
    (image_part inserted (part_word (codes "insert")))
    (or_part (is_word (codes "delete")) (marked_word (codes "delete") deleted) (avoids_word (is_word (codes "delete")) (codes "update") updated refl) (image_part deleted (part_word (codes "delete"))) (image_part updated (part_word (codes "update")))))

-- ---- attachments, each as the command that attaches it
abbrev pub Attaches : Command → Piece
Attaches (command.Attach relation label rule) = attachment relation label rule
Attaches _ = nothing

abbrev Unique : List (List ℕ) × Bool → Piece
Unique x = names x.0 ⨾ word_if (codes "unique") x.1

abbrev tree_index : Unit {0} × (Site × (List (List ℕ) × Bool)) → Command
tree_index x = command.Attach x.1.0.1.1 x.1.0.0 (TreeIndex x.1.1.0 x.1.1.1)

abbrev TreeLine : Command → Piece
TreeLine = Image tree_index (Keyed (codes "treeindex") (Sited Unique))

tree_branch : Branch Attaches (codes "treeindex") TreeLine tree_index_at
unfolding tree_index_at
tree_branch = keyed (codes "treeindex") tree_index (λ x us s. s) (then_reads part_place (then_reads part_names (reads_word_if (codes "unique"))))

abbrev hash_index : Unit {0} × (Site × List (List ℕ)) → Command
hash_index x = command.Attach x.1.0.1.1 x.1.0.0 (HashIndex x.1.1)

abbrev HashLine : Command → Piece
HashLine = Image hash_index (Keyed (codes "hashindex") (Sited names))

hash_branch : Branch Attaches (codes "hashindex") HashLine hash_index_at
unfolding hash_index_at
hash_branch = keyed (codes "hashindex") hash_index (λ x us s. s) (then_reads part_place part_names.reads)

-- names and those of another relation
abbrev Joined : List (List ℕ) × (Unit {0} × (List ℕ × List (List ℕ))) → Piece
Joined x = names x.0 ⨾ Keyed (codes "with") (Named names) x.1

abbrev join_index : Unit {0} × (Site × (List (List ℕ) × (Unit {0} × (List ℕ × List (List ℕ))))) → Command
join_index x = command.Attach x.1.0.1.1 x.1.0.0 (JoinIndex Main x.1.1.0 x.1.1.1.1.0 x.1.1.1.1.1)

abbrev JoinLine : Command → Piece
JoinLine = Image join_index (Keyed (codes "joinindex") (Sited Joined))

join_branch : Branch Attaches (codes "joinindex") JoinLine join_index_at
unfolding join_index_at
join_branch = keyed (codes "joinindex") join_index (λ x us s. s) (then_reads part_place (then_reads part_names (then_reads (part_word (codes "with")) (then_reads part_name part_names.reads))))

abbrev Width : ℤ × (Unit {0} × ℤ) → Piece
Width x = int x.0 ⨾ Keyed (codes "width") positive x.1

abbrev Counted : Unit {0} × (List ℕ × (Unit {0} × (Unit {0} × (ℤ × (Unit {0} × ℤ))))) → Piece
Counted = Signed Open (Named (Signed Close (Keyed (codes "low") Width)))

abbrev stats : Unit {0} × (Site × (Unit {0} × (List ℕ × (Unit {0} × (Unit {0} × (ℤ × (Unit {0} × ℤ))))))) → Command
stats x = command.Attach x.1.0.1.1 x.1.0.0 (Stats x.1.1.1.0 x.1.1.1.1.1.1.0 x.1.1.1.1.1.1.1.1)

abbrev StatsLine : Command → Piece
StatsLine = Image stats (Keyed (codes "stats") (Sited Counted))

stats_branch : Branch Attaches (codes "stats") StatsLine stats_at
unfolding stats_at
stats_branch = keyed (codes "stats") stats (λ x us s. s)
    (then_reads part_place (then_reads (part_mark Open) (then_reads part_name (then_reads (part_mark Close) (then_reads (part_word (codes "low")) (then_reads part_int (then_reads (part_word (codes "width")) part_positive.reads)))))))

abbrev Checked : Tree × Bool → Piece
Checked x = predicate bare_term x.0 ⨾ word_if (codes "deferred") x.1

abbrev check : Unit {0} × (Site × (Tree × Bool)) → Command
check x = command.Attach x.1.0.1.1 x.1.0.0 (Check x.1.1.0 x.1.1.1)

abbrev CheckLine : Command → Piece
CheckLine = Image check (Keyed (codes "check") (Sited Checked))

check_branch : Branch Attaches (codes "check") CheckLine check_at
unfolding check_at
check_branch = keyed (codes "check") check (λ x us s. s)
    (then_reads part_place (ended_reads and_or (reads_predicate Bare 16) (goes_predicate Bare 16) (avoids_word_if and_or (codes "deferred") refl) (reads_word_if (codes "deferred"))))

abbrev Kept : Mode × Bool → Piece
Kept x = mode x.0 ⨾ word_if (codes "deferred") x.1

abbrev Target : List (List ℕ) × (Mode × Bool) → Piece
Target x = names x.0 ⨾ Kept x.1

abbrev Referring : List (List ℕ) × (Unit {0} × (List ℕ × (List (List ℕ) × (Mode × Bool)))) → Piece
Referring x = names x.0 ⨾ Keyed (codes "to") (Named Target) x.1

abbrev refers : Unit {0} × (Site × (List (List ℕ) × (Unit {0} × (List ℕ × (List (List ℕ) × (Mode × Bool)))))) → Command
refers x = command.Attach x.1.0.1.1 x.1.0.0 (Refers Main x.1.1.0 x.1.1.1.1.0 x.1.1.1.1.1.0 x.1.1.1.1.1.1.0 x.1.1.1.1.1.1.1)

abbrev RefersLine : Command → Piece
RefersLine = Image refers (Keyed (codes "refers") (Sited Referring))

refers_branch : Branch Attaches (codes "refers") RefersLine refers_at
unfolding refers_at
refers_branch = keyed (codes "refers") refers (λ x us s. s)
    (then_reads part_place (then_reads part_names (then_reads (part_word (codes "to")) (then_reads part_name (then_reads part_names (then_reads part_mode (reads_word_if (codes "deferred"))))))))

abbrev Done : Action × Bool → Piece
Done x = triggered x.0 ⨾ word_if (codes "deferred") x.1

abbrev When : Tree × (Unit {0} × (Action × Bool)) → Piece
When x = predicate full_term x.0 ⨾ Keyed (codes "do") Done x.1

abbrev On : Event × (Unit {0} × (Tree × (Unit {0} × (Action × Bool)))) → Piece
On x = event_word x.0 ⨾ Keyed (codes "when") When x.1

abbrev trigger : Unit {0} × (Site × (Unit {0} × (Event × (Unit {0} × (Tree × (Unit {0} × (Action × Bool))))))) → Command
trigger x = command.Attach x.1.0.1.1 x.1.0.0 (Trigger x.1.1.1.0 x.1.1.1.1.1.0 x.1.1.1.1.1.1.1.0 x.1.1.1.1.1.1.1.1)

abbrev TriggerLine : Command → Piece
TriggerLine = Image trigger (Keyed (codes "trigger") (Sited (Keyed (codes "after") On)))

trigger_branch : Branch Attaches (codes "trigger") TriggerLine trigger_at
unfolding trigger_at
trigger_branch = keyed (codes "trigger") trigger (λ x us s. s)
    (then_reads part_place (then_reads (part_word (codes "after")) (then_reads part_event (then_reads (part_word (codes "when"))
    (ended_reads and_or (reads_predicate Full 16) (goes_predicate Full 16) (avoids_sign and_or (token.Word (codes "do")) Done refl)
    (then_reads (part_word (codes "do")) (ended_reads where_and reads_triggered goes_triggered (avoids_word_if where_and (codes "deferred") refl) (reads_word_if (codes "deferred")))))))))

abbrev Described : ℕ × (Site × (Unit {0} × List ℕ)) → Piece
Described x = foreign_code x.0 ⨾ Sited (Keyed (codes "desc") key) x.1

abbrev foreign : Unit {0} × (ℕ × (Site × (Unit {0} × List ℕ))) → Command
foreign x = command.Attach x.1.1.0.1.1 x.1.1.0.0 (Foreign x.1.0 x.1.1.1.1)

abbrev ForeignLine : Command → Piece
ForeignLine = Image foreign (Keyed (codes "code") Described)

foreign_branch : Branch Attaches (codes "code") ForeignLine foreign_at
unfolding foreign_at
foreign_branch = keyed (codes "code") foreign (λ x us s. s) (then_reads part_foreign_code (then_reads part_place (then_reads (part_word (codes "desc")) part_key.reads)))

-- ---- all attachments
abbrev Rules : Command → Piece
Rules c = CheckLine c ∣ RefersLine c ∣ TriggerLine c ∣ ForeignLine c ∣ StatsLine c

abbrev Attachments : Command → Piece
Attachments c = TreeLine c ∣ HashLine c ∣ JoinLine c ∣ Rules c

abbrev rule_words : List (List ℕ)
rule_words = codes "check" ∷ codes "refers" ∷ codes "trigger" ∷ codes "code" ∷ codes "stats" ∷ []

rules : Branches Attaches rule_words Rules rule_at
unfolding rule_at
rules = or check_branch (or refers_branch (or trigger_branch (or foreign_branch (last stats_branch) refl) refl) refl) refl

attachments : Branches Attaches (codes "treeindex" ∷ codes "hashindex" ∷ codes "joinindex" ∷ rule_words) Attachments attachment_at
unfolding attachment_at
attachments = or tree_branch (or hash_branch (or join_branch rules refl) refl) refl

from_rule : (relation label : List ℕ) (rule : Rule) (us : List Token) → attachment relation label rule us → Attachments (command.Attach relation label rule) us
from_rule relation label (TreeIndex columns unique) us x = inl (record { source = (tt, ((label, (tt, relation)), (columns, unique))); is = refl; spelled = x })
from_rule relation label (HashIndex columns) us x = inr (inl (record { source = (tt, ((label, (tt, relation)), columns)); is = refl; spelled = x }))
from_rule relation label (JoinIndex Main columns other others) us x = inr (inr (inl (record { source = (tt, ((label, (tt, relation)), (columns, (tt, (other, others))))); is = refl; spelled = x })))
from_rule relation label (JoinIndex Mirror columns other others) us x = absurd x
from_rule relation label (Check p deferred) us x = inr (inr (inr (inl (record { source = (tt, ((label, (tt, relation)), (p, deferred))); is = refl; spelled = x }))))
from_rule relation label (Refers Main columns other others how deferred) us x =
    inr (inr (inr (inr (inl (record { source = (tt, ((label, (tt, relation)), (columns, (tt, (other, (others, (how, deferred))))))); is = refl; spelled = x })))))
from_rule relation label (Refers Mirror columns other others how deferred) us x = absurd x
from_rule relation label (Trigger on p act deferred) us x =
    inr (inr (inr (inr (inr (inl (record { source = (tt, ((label, (tt, relation)), (tt, (on, (tt, (p, (tt, (act, deferred)))))))); is = refl; spelled = x }))))))
from_rule relation label (Foreign code desc) us x = inr (inr (inr (inr (inr (inr (inl (record { source = (tt, (code, ((label, (tt, relation)), (tt, desc)))); is = refl; spelled = x })))))))
from_rule relation label (Stats column low width) us x =
    inr (inr (inr (inr (inr (inr (inr (record { source = (tt, ((label, (tt, relation)), (tt, (column, (tt, (tt, (low, (tt, width)))))))); is = refl; spelled = x })))))))

from_attaches : (c : Command) (us : List Token) → Attaches c us → Attachments c us
from_attaches (command.Attach relation label rule) us x = from_rule relation label rule us x
from_attaches _ us x = absurd x

pub reads_attachment : Reads Attaches attachment_at
reads_attachment = reads_branches Attaches (codes "treeindex" ∷ codes "hashindex" ∷ codes "joinindex" ∷ rule_words) Attachments attachment_at attachments from_attaches
