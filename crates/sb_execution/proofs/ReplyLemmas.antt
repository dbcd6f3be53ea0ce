-- What the tests and the replies of commands are.
use Rattle.std.proofs.Common.{◌≡◌, Bool, true, false, List, [], ◌∷◌, Option, Some, None, IfSome, option_map, refl, sym, ap, ◌∙◌, subst}
use Rattle.std.proofs.lemmas.Bool.{false≢true}
use Rattle.sb_relation.specs.Db.{Name, Key, Row, Db, row_at, rows_at}
use Rattle.sb_relation.specs.Fits.{first_missing}
use Rattle.sb_fold.specs.declared.refusal.Refusal.{Refusal}
use Rattle.sb_fold.specs.declared.refusal.Refusal.TheVariants as refusal
use Rattle.sb_fold.specs.Extensions.{Extensions}
use Rattle.sb_cascade.specs.Runs.{is_free}
use Rattle.sb_plain.specs.declared.command.Command.{Command}
use Rattle.sb_plain.specs.declared.command.Command.TheVariants as command
use Rattle.sb_plain.specs.declared.reply.Reply.{Reply}
use Rattle.sb_plain.specs.declared.reply.Reply.TheVariants as reply
use Rattle.sb_plain.specs.Reading.{read, row_reply}
use Rattle.sb_plain.specs.Refusing.{refused, first_of, refuse_where, is_misplaced, relations_of, first_existing, first_absent, missing_code, first_use, is_well_kinded, is_mixed, passes_limits}
use Rattle.sb_plain.specs.State.{State, view}
use Rattle.sb_plain.specs.Step.{Answer, Plain, Keyed, PickedKey, Counts, answered, reply_without}
use Rattle.sb_engine.specs.declared.running.Work.{Work as EngineWork}
use Rattle.sb_reads.specs.Reads.{IsAnswer}
use Rattle.sb_statements.specs.Statements.{answer_of}
use Rattle.sb_execution.specs.declared.serving.Served.{Served}
use Rattle.sb_execution.specs.declared.serving.Served.TheVariants as served
use Rattle.sb_execution.specs.Endings.{IsReplied}
use Rattle.sb_execution.specs.Serving.{IsAnswered, may_have_changed}
use Rattle.std.specs.Prelude.{not}

-- ---- refusals that definitions give
abbrev AreGiven : Option Refusal → Type 0
AreGiven o = IfSome o (λ r. is_free r ≡ false)

where_given : (b : Bool) (r : Refusal) → is_free r ≡ false → AreGiven (refuse_where b r)
where_given true r given = given
where_given false r given = tt

map_given : {A : Type 0} (f : A → Refusal) → ((x : A) → is_free (f x) ≡ false) → (o : Option A) → AreGiven (option_map f o)
map_given f given None = tt
map_given f given (Some x) = given x

first_given : (o : Option Refusal) (others : List (Option Refusal)) → AreGiven o → AreGiven (first_of others) → AreGiven (first_of (o ∷ others))
first_given None others first rest = rest
first_given (Some r) others first rest = first

tests_given : (ext : Extensions) (s : State) (c : Command) → AreGiven (refused ext s c)
tests_given ext s c =
    first_given (refuse_where s.down refusal.Down) _ (where_given s.down refusal.Down refl)
    (first_given (refuse_where (is_misplaced s c) refusal.State) _ (where_given (is_misplaced s c) refusal.State refl)
    (first_given (option_map refusal.NoRelation (first_missing (view s) (relations_of c))) _ (map_given refusal.NoRelation (λ x. refl) (first_missing (view s) (relations_of c)))
    (first_given (option_map refusal.Exists (first_existing s c)) _ (map_given refusal.Exists (λ x. refl) (first_existing s c))
    (first_given (option_map refusal.NoName (first_absent s c)) _ (map_given refusal.NoName (λ x. refl) (first_absent s c))
    (first_given (option_map refusal.NoExtension (missing_code s c)) _ (map_given refusal.NoExtension (λ x. refl) (missing_code s c))
    (first_given (option_map (λ user. refusal.InUse user.0 user.1) (first_use (view s) c)) _ (map_given (λ user. refusal.InUse user.0 user.1) (λ x. refl) (first_use (view s) c))
    (first_given (refuse_where (not (is_well_kinded ext (view s) c)) refusal.Mistyped) _ (where_given (not (is_well_kinded ext (view s) c)) refusal.Mistyped refl)
    (first_given (refuse_where (is_mixed ext (view s) c) refusal.Mixed) _ (where_given (is_mixed ext (view s) c) refusal.Mixed refl)
    (first_given (refuse_where (passes_limits s c) refusal.Limit) [] (where_given (passes_limits s c) refusal.Limit refl) tt)))))))))

pub refused_given : (ext : Extensions) (s : State) (c : Command) (r : Refusal) → refused ext s c ≡ Some r → is_free r ≡ false
refused_given ext s c r is = let P : Option Refusal → Type 0 = AreGiven in subst P is (tests_given ext s c)

-- ---- replies
-- a reply that refuses for room, damage, a fault or want of memory
abbrev pub is_free_reply : Reply → Bool
is_free_reply (reply.Refused r) = is_free r
is_free_reply reply = false

pub answered_given : (answer : Answer) (picks : List Key) → is_free_reply (answered answer picks) ≡ false
answered_given Plain picks = refl
answered_given (Keyed key) picks = refl
answered_given (PickedKey key) picks = refl
answered_given (Counts n) picks = refl

-- what work answers tells of a change
pub tells_answer : (answer : Answer) (picks : List Key) → may_have_changed (answered answer picks) ≡ true
tells_answer Plain picks = refl
tells_answer (Keyed key) picks = refl
tells_answer (PickedKey key) picks = refl
tells_answer (Counts n) picks = refl

-- a reply that the definitions give tells no fault
pub given_no_fault : (r : Reply) → is_free_reply r ≡ false → r ≡ reply.Refused refusal.Fault → ⊥
given_no_fault r given is = false≢true (sym given ∙ ap (λ (x : Reply). is_free_reply x) is)

pub answer_no_fault : (r : Reply) → IsAnswer r → r ≡ reply.Refused refusal.Fault → ⊥
answer_no_fault r answer is = subst (λ (x : Reply). IsAnswer x) is answer

pub replied_no_fault : (served : Served) (old new : EngineWork) (r : Reply) → IsReplied served old new r → IsAnswered served → r ≡ reply.Refused refusal.Fault → ⊥
replied_no_fault (served.Read x) old new r replied answer is = answer_no_fault x answer (sym replied.0 ∙ is)
replied_no_fault (served.Worked x) old new r replied answer is =
    given_no_fault (answered (answer_of x) old.picks.items) (answered_given (answer_of x) old.picks.items) (sym replied.0 ∙ is)

row_given : (relation : Name) (key : Key) (row : Option Row) → is_free_reply (row_reply relation key row) ≡ false
row_given relation key None = refl
row_given relation key (Some row) = refl

reads_given : (ext : Extensions) (db : Db) (c : Command) → IfSome (read ext db c) (λ reply. is_free_reply reply ≡ false)
reads_given ext db (command.Get relation at) = row_given relation at (row_at (rows_at db relation) at)
reads_given ext db (command.Scan relation after limit) = refl
reads_given ext db (command.Lookup relation name values) = refl
reads_given ext db (command.Range relation name low high) = refl
reads_given ext db (command.Entries relation name) = refl
reads_given ext db (command.Show relation) = refl
reads_given ext db command.Tables = refl
reads_given ext db c = tt

pub read_given : (ext : Extensions) (db : Db) (c : Command) (reply : Reply) → read ext db c ≡ Some reply → is_free_reply reply ≡ false
read_given ext db c reply is = let P : Option Reply → Type 0 = λ o. IfSome o (λ reply. is_free_reply reply ≡ false) in subst P is (reads_given ext db c)

-- a reply that no pick is left to
pub without_picks : (reply : Reply) → reply_without [] reply ≡ Some reply
without_picks (reply.Refused r) = refl
without_picks reply = refl
