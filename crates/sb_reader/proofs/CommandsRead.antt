-- Commands: reading them reads their grammar.
use Rattle.std.proofs.Common.{ℕ, List, [], ◌∷◌, codes, refl, sym, subst, inl, inr, Bool, true, false, Option, Some, None, arith}
use Rattle.sb_value.specs.declared.schema.Column.{Column}
use Rattle.sb_value.specs.declared.value.Value.{Value}
use Rattle.sb_pred.specs.declared.predicate.Term.{Term}
use Rattle.sb_rule.specs.declared.action.Action.{Action}
use Rattle.sb_rule.specs.declared.action.Action.TheVariants as action
use Rattle.sb_plain.specs.declared.command.Command.{Command}
use Rattle.sb_plain.specs.declared.command.Command.TheVariants as command
use Rattle.sb_tokens.specs.declared.token.Token.{Token}
use Rattle.sb_language.specs.Lang.{◌⨾◌, ◌∣◌}
use Rattle.sb_grammar.specs.Grammar.{Piece, name, key, constants, constant_term, listed, column, key_columns, method, sort, any_code, after_key, row_limit, number_between, optional, matching_action, Spells}
use Rattle.sb_language.proofs.Front.{Reads}
use Rattle.sb_language.proofs.Choice.{Marked, Avoids, Image, Alike, marked_image, marked_same, avoids_image, avoids_same, reads_same}
use Rattle.sb_language.proofs.Parts.{Closed, Part, part_same}
use Rattle.sb_phrases.specs.declared.form.Form.TheVariants.{Constant}
use Rattle.sb_reader.specs.Commands as spec
use Rattle.sb_phrases.specs.Phrases.{◌⟫◌, Reader, is_word, is_key, number_at}
use Rattle.sb_reader.specs.Commands.{optional_at, Rows, At, Matching, deleted}
use Rattle.sb_phrases.proofs.Joined.{Goes, then_part, then_reads, ended_reads, image_part, image_reads, or_part, or_reads, OrNone, maybe_reads, maybe_avoids, maybe_goes, goes_closed, goes_image, goes_same}
use Rattle.sb_phrases.proofs.PiecesRead.{Word, part_word, part_name, part_key, part_number, marked_key}
use Rattle.sb_phrases.proofs.PhrasesRead.{Keyed, behind, Named, Site, Place, part_place, Sited, part_constants, marked_keyed, avoids_keyed, marked_word, avoids_word}
use Rattle.sb_reader.proofs.ActionsRead as actions
use Rattle.sb_reader.proofs.ActionsRead.{matching_of, reads_matching, avoids_matching, SetAction, AddAction}
use Rattle.sb_reader.proofs.AttachmentsRead.{Attaches, reads_attachment}
use Rattle.sb_phrases.proofs.RelationsRead.{part_method, part_schema, reads_key_columns}
use Rattle.sb_reader.proofs.Branches.{Branch, Branches, keyed, alone, branch_image, last, or, reads_branches}

-- ---- relations
abbrev Kept : List Column × List (List ℕ) → Piece
Kept x = listed column x.0 ⨾ key_columns x.1

abbrev Made : ℕ × (List Column × List (List ℕ)) → Piece
Made x = method x.0 ⨾ Kept x.1

abbrev create : Unit {0} × (List ℕ × (Unit {0} × (ℕ × (List Column × List (List ℕ))))) → Command
create x = command.Create x.1.0 x.1.1.1.0 x.1.1.1.1.0 x.1.1.1.1.1

abbrev CreateLine : Command → Piece
CreateLine = Image create (Keyed (codes "create") (Named (Keyed (codes "using") Made)))

create_branch : Branch Spells (codes "create") CreateLine spec.create_at
unfolding spec.create_at
create_branch = keyed (codes "create") create (λ x us s. s) (then_reads part_name (then_reads (part_word (codes "using")) (then_reads part_method (then_reads part_schema reads_key_columns))))

abbrev drop : Unit {0} × List ℕ → Command
drop x = command.Drop x.1

abbrev DropLine : Command → Piece
DropLine = Image drop (Keyed (codes "drop") name)

drop_branch : Branch Spells (codes "drop") DropLine spec.drop_at
unfolding spec.drop_at
drop_branch = keyed (codes "drop") drop (λ x us s. s) part_name.reads

abbrev attach : Unit {0} × Command → Command
attach x = x.1

abbrev AttachLine : Command → Piece
AttachLine = Image attach (Keyed (codes "attach") Attaches)

attached : (c : Command) (us : List Token) → Keyed (codes "attach") Attaches (tt, c) us → Spells c us
attached (command.Attach relation label rule) us s = s
attached _ us s = absurd s.is_back

attach_branch : Branch Spells (codes "attach") AttachLine spec.attach_at
unfolding spec.attach_at
attach_branch = keyed (codes "attach") attach (λ x us s. attached x.1 us s) reads_attachment

abbrev detach : Unit {0} × Site → Command
detach x = command.Detach x.1.1.1 x.1.0

abbrev DetachLine : Command → Piece
DetachLine = Image detach (Keyed (codes "detach") Place)

detach_branch : Branch Spells (codes "detach") DetachLine spec.detach_at
unfolding spec.detach_at
detach_branch = keyed (codes "detach") detach (λ x us s. s) part_place.reads

abbrev show : Unit {0} × List ℕ → Command
show x = command.Show x.1

abbrev ShowLine : Command → Piece
ShowLine = Image show (Keyed (codes "show") name)

show_branch : Branch Spells (codes "show") ShowLine spec.show_at
unfolding spec.show_at
show_branch = keyed (codes "show") show (λ x us s. s) part_name.reads

abbrev tables : Unit {0} → Command
tables x = command.Tables

abbrev TablesLine : Command → Piece
TablesLine = Image tables (Word (codes "tables"))

tables_branch : Branch Spells (codes "tables") TablesLine spec.tables_at
unfolding spec.tables_at
tables_branch = alone (codes "tables") tables (λ us s. s)

-- ---- extensions
abbrev of_method : Unit {0} → Bool
of_method x = true

abbrev of_attachment : Unit {0} → Bool
of_attachment x = false

abbrev Sorts : Bool → Piece
Sorts b = Image of_method (Word (codes "method")) b ∣ Image of_attachment (Word (codes "attachment")) b

sorts_alike : Alike Sorts sort
sorts_alike = record { to = to; from = from }
  where
    to : (b : Bool) (us : List Token) → Sorts b us → sort b us
    to b us (inl x) = subst (λ c. sort c us) (sym x.is) x.spelled
    to b us (inr x) = subst (λ c. sort c us) (sym x.is) x.spelled

    from : (b : Bool) (us : List Token) → sort b us → Sorts b us
    from true us x = inl (record { source = tt; is = refl; spelled = x })
    from false us x = inr (record { source = tt; is = refl; spelled = x })

part_sort : Part sort spec.sort_at
unfolding spec.sort_at
part_sort = part_same Sorts sort spec.sort_at sorts_alike
    (or_part (is_word (codes "method")) (marked_word (codes "method") of_method) (avoids_word (is_word (codes "method")) (codes "attachment") of_attachment refl) (image_part of_method (part_word (codes "method"))) (image_part of_attachment (part_word (codes "attachment"))))

abbrev Extension : Bool × ℕ → Piece
Extension x = sort x.0 ⨾ any_code x.1

reads_extension : Reads Extension (spec.sort_at ⟫ spec.any_code_at)
reads_extension = then_reads part_sort (part_number 1 65535 (omega arith)).reads

abbrev register : Unit {0} × (Bool × ℕ) → Command
register x = command.Register x.1.0 x.1.1

abbrev RegisterLine : Command → Piece
RegisterLine = Image register (Keyed (codes "register") Extension)

register_branch : Branch Spells (codes "register") RegisterLine spec.register_at
unfolding spec.register_at
register_branch = keyed (codes "register") register (λ x us s. s) reads_extension

abbrev retire : Unit {0} × (Bool × ℕ) → Command
retire x = command.Retire x.1.0 x.1.1

abbrev RetireLine : Command → Piece
RetireLine = Image retire (Keyed (codes "retire") Extension)

retire_branch : Branch Spells (codes "retire") RetireLine spec.retire_at
unfolding spec.retire_at
retire_branch = keyed (codes "retire") retire (λ x us s. s) reads_extension

-- ---- transactions
abbrev begin : Unit {0} → Command
begin x = command.Begin

abbrev commit : Unit {0} → Command
commit x = command.Commit

abbrev abort : Unit {0} → Command
abort x = command.Abort

abbrev checkpoint : Unit {0} → Command
checkpoint x = command.Checkpoint

abbrev BeginLine : Command → Piece
BeginLine = Image begin (Word (codes "begin"))

abbrev CommitLine : Command → Piece
CommitLine = Image commit (Word (codes "commit"))

abbrev AbortLine : Command → Piece
AbortLine = Image abort (Word (codes "abort"))

abbrev CheckpointLine : Command → Piece
CheckpointLine = Image checkpoint (Word (codes "checkpoint"))

begin_branch : Branch Spells (codes "begin") BeginLine spec.begin_at
unfolding spec.begin_at
begin_branch = alone (codes "begin") begin (λ us s. s)

commit_branch : Branch Spells (codes "commit") CommitLine spec.commit_at
unfolding spec.commit_at
commit_branch = alone (codes "commit") commit (λ us s. s)

abort_branch : Branch Spells (codes "abort") AbortLine spec.abort_at
unfolding spec.abort_at
abort_branch = alone (codes "abort") abort (λ us s. s)

checkpoint_branch : Branch Spells (codes "checkpoint") CheckpointLine spec.checkpoint_at
unfolding spec.checkpoint_at
checkpoint_branch = alone (codes "checkpoint") checkpoint (λ us s. s)

abbrev savepoint : Unit {0} × List ℕ → Command
savepoint x = command.Savepoint x.1

abbrev rollback : Unit {0} × List ℕ → Command
rollback x = command.Rollback x.1

abbrev SavepointLine : Command → Piece
SavepointLine = Image savepoint (Keyed (codes "savepoint") name)

abbrev RollbackLine : Command → Piece
RollbackLine = Image rollback (Keyed (codes "rollback") name)

savepoint_branch : Branch Spells (codes "savepoint") SavepointLine spec.savepoint_at
unfolding spec.savepoint_at
savepoint_branch = keyed (codes "savepoint") savepoint (λ x us s. s) part_name.reads

rollback_branch : Branch Spells (codes "rollback") RollbackLine spec.rollback_at
unfolding spec.rollback_at
rollback_branch = keyed (codes "rollback") rollback (λ x us s. s) part_name.reads

-- ---- rows
abbrev Values : Unit {0} × List Value → Piece
Values = Keyed (codes "values") constants

abbrev insert : Unit {0} × (List ℕ × (Unit {0} × List Value)) → Command
insert x = command.Insert x.1.0 x.1.1.1

abbrev InsertLine : Command → Piece
InsertLine = Image insert (Keyed (codes "insert") (Named Values))

insert_branch : Branch Spells (codes "insert") InsertLine spec.insert_at
unfolding spec.insert_at
insert_branch = keyed (codes "insert") insert (λ x us s. s) (then_reads part_name (then_reads (part_word (codes "values")) part_constants.reads))

abbrev Located : List ℕ × (Unit {0} × List Value) → Piece
Located x = key x.0 ⨾ Values x.1

abbrev update : Unit {0} × (List ℕ × (List ℕ × (Unit {0} × List Value))) → Command
update x = command.Update x.1.0 x.1.1.0 x.1.1.1.1

abbrev UpdateLine : Command → Piece
UpdateLine = Image update (Keyed (codes "update") (Named Located))

update_branch : Branch Spells (codes "update") UpdateLine spec.update_at
unfolding spec.update_at
update_branch = keyed (codes "update") update (λ x us s. s) (then_reads part_name (then_reads part_key (then_reads (part_word (codes "values")) part_constants.reads)))

abbrev get : Unit {0} × (List ℕ × List ℕ) → Command
get x = command.Get x.1.0 x.1.1

abbrev GetLine : Command → Piece
GetLine = Image get (Keyed (codes "get") (Named key))

get_branch : Branch Spells (codes "get") GetLine spec.get_at
unfolding spec.get_at
get_branch = keyed (codes "get") get (λ x us s. s) (then_reads part_name part_key.reads)

-- a row by its key, or the rows that match
abbrev at : List ℕ → Rows
at k = At k

abbrev matched : List (List ℕ × Term) → Rows
matched pairs = Matching pairs

abbrev rows : Rows → Piece
rows (At k) = key k
rows (Matching pairs) = matching_of Constant pairs

abbrev Which : Rows → Piece
Which r = Image at key r ∣ Image matched (matching_of Constant) r

which_alike : Alike Which rows
which_alike = record { to = to; from = from }
  where
    to : (r : Rows) (us : List Token) → Which r us → rows r us
    to r us (inl x) = subst (λ q. rows q us) (sym x.is) x.spelled
    to r us (inr x) = subst (λ q. rows q us) (sym x.is) x.spelled

    from : (r : Rows) (us : List Token) → rows r us → Which r us
    from (At k) us x = inl (record { source = k; is = refl; spelled = x })
    from (Matching pairs) us x = inr (record { source = pairs; is = refl; spelled = x })

reads_rows : Reads rows spec.rows_at
unfolding spec.rows_at
reads_rows = reads_same Which rows spec.rows_at which_alike
    (or_reads is_key (marked_image at key is_key marked_key) (avoids_image matched (matching_of Constant) is_key (avoids_matching Constant is_key refl)) (image_reads at part_key.reads) (image_reads matched (reads_matching Constant)))

abbrev delete : Unit {0} × (List ℕ × Rows) → Command
delete x = deleted x.1.0 x.1.1

abbrev DeleteLine : Command → Piece
DeleteLine = Image delete (Keyed (codes "delete") (Named rows))

deletes : (relation : List ℕ) (r : Rows) (us : List Token) → Keyed (codes "delete") (Named rows) (tt, (relation, r)) us → Spells (deleted relation r) us
deletes relation (At k) us s = s
deletes relation (Matching pairs) us s = s

delete_branch : Branch Spells (codes "delete") DeleteLine spec.delete_at
unfolding spec.delete_at
delete_branch = keyed (codes "delete") delete (λ x us s. deletes x.1.0 x.1.1 us s) (then_reads part_name reads_rows)

-- the rows that match
abbrev acts : Action → Command
acts a = command.Act a

abbrev SetLine : Command → Piece
SetLine = Image acts (SetAction Constant)

abbrev AddLine : Command → Piece
AddLine = Image acts (AddAction Constant)

set_branch : Branch Spells (codes "set") SetLine spec.set_at
unfolding spec.set_at
set_branch = let b : Branch (matching_action constant_term) (codes "set") (SetAction Constant) (spec.set_action_at Constant) = actions.set_branch Constant (λ x us s. s) in branch_image (codes "set") acts b.sound b

add_branch : Branch Spells (codes "add") AddLine spec.add_at
unfolding spec.add_at
add_branch = let b : Branch (matching_action constant_term) (codes "add") (AddAction Constant) (spec.add_action_at Constant) = actions.add_branch Constant (λ x us s. s) in branch_image (codes "add") acts b.sound b

-- ---- what may be left out
abbrev some_of : {A : Type 0} → A → Option A
some_of a = Some a

optional_alike : {A : Type 0} (P : A → Piece) → Alike (OrNone None (Image some_of P)) (optional P)
optional_alike {A} P = record { to = to; from = from }
  where
    to : (o : Option A) (us : List Token) → OrNone None (Image some_of P) o us → optional P o us
    to o us (inl x) = subst (λ b. optional P b us) (sym x.is) x.spelled
    to o us (inr x) = subst (λ b. optional P b us) (sym x.is) x.spelled

    from : (o : Option A) (us : List Token) → optional P o us → OrNone None (Image some_of P) o us
    from None us x = inr (record { source = tt; is = refl; spelled = x })
    from (Some a) us x = inl (record { source = a; is = refl; spelled = x })

reads_optional : {A : Type 0} (P : A → Piece) (R : Reader A) (p : Token → Bool) → Marked P p → Reads P R → Reads (optional P) (optional_at p R)
reads_optional P R p k f = reads_same (OrNone None (Image some_of P)) (optional P) (optional_at p R) (optional_alike P) (maybe_reads p None (marked_image some_of P p k) (image_reads some_of f))

avoids_optional : {A : Type 0} (P : A → Piece) (p : Token → Bool) → Avoids P p → Avoids (optional P) p
avoids_optional P p v = avoids_same (OrNone None (Image some_of P)) (optional P) p (optional_alike P) (maybe_avoids (Image some_of P) None p (avoids_image some_of P p v))

-- what may be left out goes on only with its first token
goes_optional : {A : Type 0} (P : A → Piece) (p : Token → Bool) → Marked P p → Closed P → Goes (optional P) p
goes_optional P p k c = goes_same (OrNone None (Image some_of P)) (optional P) p (optional_alike P)
    (maybe_goes (Image some_of P) p p None (marked_image some_of P p k) (λ t e. e) (goes_image some_of P p (goes_closed P p c)))

-- ---- scan
abbrev AfterKey : List ℕ → Piece
AfterKey = Image behind (Keyed (codes "after") key)

after_alike : Alike AfterKey after_key
after_alike = record { to = λ k us x. subst (λ j. after_key j us) (sym x.is) x.spelled; from = λ k us x. record { source = (tt, k); is = refl; spelled = x } }

part_after : Part after_key spec.after_key_at
unfolding spec.after_key_at
part_after = part_same AfterKey after_key spec.after_key_at after_alike (image_part behind (then_part (part_word (codes "after")) part_key))

marked_after : Marked after_key (is_word (codes "after"))
marked_after = marked_same AfterKey after_key (is_word (codes "after")) after_alike (marked_keyed (codes "after") key behind part_key.reads.some)

abbrev Counted : ℕ → Piece
Counted = number_between 0 1000000

part_counted : Part Counted (number_at 0 1000000)
part_counted = part_number 0 1000000 (omega arith)

abbrev RowLimit : ℕ → Piece
RowLimit = Image behind (Keyed (codes "limit") Counted)

limit_alike : Alike RowLimit row_limit
limit_alike = record { to = λ n us x. subst (λ j. row_limit j us) (sym x.is) x.spelled; from = λ n us x. record { source = (tt, n); is = refl; spelled = x } }

reads_limit : Reads row_limit spec.row_limit_at
unfolding spec.row_limit_at
reads_limit = reads_same RowLimit row_limit spec.row_limit_at limit_alike (image_reads behind (then_reads (part_word (codes "limit")) part_counted.reads))

marked_limit : Marked row_limit (is_word (codes "limit"))
marked_limit = marked_same RowLimit row_limit (is_word (codes "limit")) limit_alike (marked_keyed (codes "limit") Counted behind part_counted.reads.some)

avoids_limit : Avoids row_limit (is_word (codes "after"))
avoids_limit = avoids_same RowLimit row_limit (is_word (codes "after")) limit_alike (avoids_keyed (is_word (codes "after")) (codes "limit") Counted behind refl)

abbrev Window : Option (List ℕ) × Option ℕ → Piece
Window x = optional after_key x.0 ⨾ optional row_limit x.1

reads_window : Reads Window (spec.optional_after_at ⟫ spec.optional_limit_at)
unfolding spec.optional_after_at spec.optional_limit_at
reads_window = ended_reads (is_word (codes "after")) (reads_optional after_key spec.after_key_at (is_word (codes "after")) marked_after part_after.reads)
    (goes_optional after_key (is_word (codes "after")) marked_after part_after.closed) (avoids_optional row_limit (is_word (codes "after")) avoids_limit)
    (reads_optional row_limit spec.row_limit_at (is_word (codes "limit")) marked_limit reads_limit)

abbrev scan : Unit {0} × (List ℕ × (Option (List ℕ) × Option ℕ)) → Command
scan x = command.Scan x.1.0 x.1.1.0 x.1.1.1

abbrev ScanLine : Command → Piece
ScanLine = Image scan (Keyed (codes "scan") (Named Window))

scan_branch : Branch Spells (codes "scan") ScanLine spec.scan_at
unfolding spec.scan_at
scan_branch = keyed (codes "scan") scan (λ x us s. s) (then_reads part_name reads_window)

-- ---- indexes
abbrev lookup : Unit {0} × (Site × List Value) → Command
lookup x = command.Lookup x.1.0.1.1 x.1.0.0 x.1.1

abbrev LookupLine : Command → Piece
LookupLine = Image lookup (Keyed (codes "lookup") (Sited constants))

lookup_branch : Branch Spells (codes "lookup") LookupLine spec.lookup_at
unfolding spec.lookup_at
lookup_branch = keyed (codes "lookup") lookup (λ x us s. s) (then_reads part_place part_constants.reads)

abbrev Bounds : List Value × (Unit {0} × List Value) → Piece
Bounds x = constants x.0 ⨾ Keyed (codes "to") constants x.1

abbrev range : Unit {0} × (Site × (Unit {0} × (List Value × (Unit {0} × List Value)))) → Command
range x = command.Range x.1.0.1.1 x.1.0.0 x.1.1.1.0 x.1.1.1.1.1

abbrev RangeLine : Command → Piece
RangeLine = Image range (Keyed (codes "range") (Sited (Keyed (codes "from") Bounds)))

range_branch : Branch Spells (codes "range") RangeLine spec.range_at
unfolding spec.range_at
range_branch = keyed (codes "range") range (λ x us s. s) (then_reads part_place (then_reads (part_word (codes "from")) (then_reads part_constants (then_reads (part_word (codes "to")) part_constants.reads))))

abbrev entries : Unit {0} × Site → Command
entries x = command.Entries x.1.1.1 x.1.0

abbrev EntriesLine : Command → Piece
EntriesLine = Image entries (Keyed (codes "entries") Place)

entries_branch : Branch Spells (codes "entries") EntriesLine spec.entries_at
unfolding spec.entries_at
entries_branch = keyed (codes "entries") entries (λ x us s. s) part_place.reads

-- ---- all commands
abbrev Control : Command → Piece
Control c = BeginLine c ∣ CommitLine c ∣ AbortLine c ∣ SavepointLine c ∣ RollbackLine c ∣ RegisterLine c ∣ RetireLine c ∣ CheckpointLine c

abbrev Relation : Command → Piece
Relation c = CreateLine c ∣ DropLine c ∣ AttachLine c ∣ DetachLine c ∣ ShowLine c ∣ TablesLine c ∣ Control c

abbrev Index : Command → Piece
Index c = LookupLine c ∣ RangeLine c ∣ EntriesLine c ∣ Relation c

abbrev Commands : Command → Piece
Commands c = InsertLine c ∣ DeleteLine c ∣ UpdateLine c ∣ SetLine c ∣ AddLine c ∣ GetLine c ∣ ScanLine c ∣ Index c

abbrev control_words : List (List ℕ)
control_words = codes "begin" ∷ codes "commit" ∷ codes "abort" ∷ codes "savepoint" ∷ codes "rollback" ∷ codes "register" ∷ codes "retire" ∷ codes "checkpoint" ∷ []

abbrev relation_words : List (List ℕ)
relation_words = codes "create" ∷ codes "drop" ∷ codes "attach" ∷ codes "detach" ∷ codes "show" ∷ codes "tables" ∷ control_words

abbrev index_words : List (List ℕ)
index_words = codes "lookup" ∷ codes "range" ∷ codes "entries" ∷ relation_words

abbrev words : List (List ℕ)
words = codes "insert" ∷ codes "delete" ∷ codes "update" ∷ codes "set" ∷ codes "add" ∷ codes "get" ∷ codes "scan" ∷ index_words

control : Branches Spells control_words Control spec.control_at
unfolding spec.control_at
control =
    or begin_branch (or commit_branch (or abort_branch (or savepoint_branch (or rollback_branch (or register_branch (or retire_branch (last checkpoint_branch) refl) refl) refl) refl) refl) refl) refl

relation : Branches Spells relation_words Relation spec.definition_at
unfolding spec.definition_at
relation = or create_branch (or drop_branch (or attach_branch (or detach_branch (or show_branch (or tables_branch control refl) refl) refl) refl) refl) refl

index : Branches Spells index_words Index spec.index_at
unfolding spec.index_at
index = or lookup_branch (or range_branch (or entries_branch relation refl) refl) refl

commands : Branches Spells words Commands spec.command_at
unfolding spec.command_at
commands = or insert_branch (or delete_branch (or update_branch (or set_branch (or add_branch (or get_branch (or scan_branch index refl) refl) refl) refl) refl) refl) refl

-- ---- each command begins with one of the words
from_control : (c : Command) (us : List Token) → Control c us → Commands c us
from_control c us x = inr (inr (inr (inr (inr (inr (inr (inr (inr (inr (inr (inr (inr (inr (inr (inr x)))))))))))))))

from_relation : (c : Command) (us : List Token) → Relation c us → Commands c us
from_relation c us x = inr (inr (inr (inr (inr (inr (inr (inr (inr (inr x)))))))))

from_index : (c : Command) (us : List Token) → Index c us → Commands c us
from_index c us x = inr (inr (inr (inr (inr (inr (inr x))))))

from_act : (a : Action) (us : List Token) → matching_action constant_term a us → Commands (command.Act a) us
from_act (action.Insert r terms) us x = absurd x
from_act (action.Delete r pairs) us x = inr (inl (record { source = (tt, (r, Matching pairs)); is = refl; spelled = x }))
from_act (action.Set r column new pairs) us x =
    inr (inr (inr (inl (record { source = action.Set r column new pairs; is = refl; spelled = record { source = (tt, (r, (column, (tt, (new, pairs))))); is = refl; spelled = x } }))))
from_act (action.Add r column new pairs) us x =
    inr (inr (inr (inr (inl (record { source = action.Add r column new pairs; is = refl; spelled = record { source = (tt, (r, (column, (tt, (new, pairs))))); is = refl; spelled = x } })))))

from_spells : (c : Command) (us : List Token) → Spells c us → Commands c us
from_spells (command.Create r code schema columns) us x = from_relation _ us (inl (record { source = (tt, (r, (tt, (code, (schema, columns))))); is = refl; spelled = x }))
from_spells (command.Drop r) us x = from_relation _ us (inr (inl (record { source = (tt, r); is = refl; spelled = x })))
from_spells (command.Attach r label rule) us x = from_relation _ us (inr (inr (inl (record { source = (tt, command.Attach r label rule); is = refl; spelled = x }))))
from_spells (command.Detach r label) us x = from_relation _ us (inr (inr (inr (inl (record { source = (tt, (label, (tt, r))); is = refl; spelled = x })))))
from_spells (command.Show r) us x = from_relation _ us (inr (inr (inr (inr (inl (record { source = (tt, r); is = refl; spelled = x }))))))
from_spells command.Tables us x = from_relation _ us (inr (inr (inr (inr (inr (inl (record { source = tt; is = refl; spelled = x })))))))
from_spells command.Begin us x = from_control _ us (inl (record { source = tt; is = refl; spelled = x }))
from_spells command.Commit us x = from_control _ us (inr (inl (record { source = tt; is = refl; spelled = x })))
from_spells command.Abort us x = from_control _ us (inr (inr (inl (record { source = tt; is = refl; spelled = x }))))
from_spells (command.Savepoint label) us x = from_control _ us (inr (inr (inr (inl (record { source = (tt, label); is = refl; spelled = x })))))
from_spells (command.Rollback label) us x = from_control _ us (inr (inr (inr (inr (inl (record { source = (tt, label); is = refl; spelled = x }))))))
from_spells (command.Register is_method code) us x = from_control _ us (inr (inr (inr (inr (inr (inl (record { source = (tt, (is_method, code)); is = refl; spelled = x })))))))
from_spells (command.Retire is_method code) us x = from_control _ us (inr (inr (inr (inr (inr (inr (inl (record { source = (tt, (is_method, code)); is = refl; spelled = x }))))))))
from_spells command.Checkpoint us x = from_control _ us (inr (inr (inr (inr (inr (inr (inr (record { source = tt; is = refl; spelled = x }))))))))
from_spells (command.Insert r vs) us x = inl (record { source = (tt, (r, (tt, vs))); is = refl; spelled = x })
from_spells (command.Delete r k) us x = inr (inl (record { source = (tt, (r, At k)); is = refl; spelled = x }))
from_spells (command.Update r k vs) us x = inr (inr (inl (record { source = (tt, (r, (k, (tt, vs)))); is = refl; spelled = x })))
from_spells (command.Act a) us x = from_act a us x
from_spells (command.Get r k) us x = inr (inr (inr (inr (inr (inl (record { source = (tt, (r, k)); is = refl; spelled = x }))))))
from_spells (command.Scan r after limit) us x = inr (inr (inr (inr (inr (inr (inl (record { source = (tt, (r, (after, limit))); is = refl; spelled = x })))))))
from_spells (command.Lookup r label vs) us x = from_index _ us (inl (record { source = (tt, ((label, (tt, r)), vs)); is = refl; spelled = x }))
from_spells (command.Range r label low high) us x = from_index _ us (inr (inl (record { source = (tt, ((label, (tt, r)), (tt, (low, (tt, high))))); is = refl; spelled = x })))
from_spells (command.Entries r label) us x = from_index _ us (inr (inr (inl (record { source = (tt, (label, (tt, r))); is = refl; spelled = x }))))

pub reads_command : Reads Spells spec.command_at
reads_command = reads_branches Spells words Commands spec.command_at commands from_spells
