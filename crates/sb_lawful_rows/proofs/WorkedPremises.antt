-- What the premises are for: lawful databases whose triggers put into rows what can't be stored, and one where all is well.
use Rattle.std.proofs.Common.{◌≡◌, ℕ, true, ◌^◌, codes, [], ◌∷◌, Option, Some, None, refl, arith, rules}
use Rattle.std.specs.Prelude.{All, pos, false}
use Rattle.std.specs.Int.{to_be_bytes, w64}
use Rattle.std.proofs.lemmas.List.Elements.{All-nil, All-cons, All-head, All-tail}
use Rattle.sb_value.specs.declared.value.Value.{Value}
use Rattle.sb_value.specs.declared.value.Value.TheVariants.{Int}
use Rattle.sb_value.specs.Spelling.{IsStorable}
use Rattle.sb_pred.specs.declared.predicate.Term.TheVariants.{Const, New}
use Rattle.sb_pred.specs.Tree.{Always}
use Rattle.sb_rule.specs.declared.action.Action.{Action}
use Rattle.sb_rule.specs.declared.action.Action.TheVariants as action
use Rattle.sb_rule.specs.declared.rule.Event.TheVariants as event
use Rattle.sb_rule.specs.declared.rule.Rule.TheVariants.{Trigger}
use Rattle.sb_relation.specs.Build.{mirror_name, mirror_of}
use Rattle.sb_relation.specs.Db.{Key, Rows, Attached, Relation, Db, int_column}
use Rattle.sb_fold.specs.Building.{without_rule, HasMirror}
use Rattle.sb_fold.specs.Extensions.{Extensions}
use Rattle.sb_fold.specs.Finish.{finish}
use Rattle.sb_fold.specs.Fold.{change_within}
use Rattle.sb_fold.specs.Outcome.{Going, Outcome, Gives, Stopped, NoStep, begun}
use Rattle.sb_fold.specs.Wishes.{Put}
use Rattle.sb_plain.specs.declared.command.Command.TheVariants as command
use Rattle.sb_plain.specs.Lawful.{MayBe, MayBeAttached, IsMirrorOf, IsRowOf, IsLawfulRelation, IsLawful}
use Rattle.sb_plain.specs.Printing.{is_mirror}
use Rattle.sb_plain.specs.State.{no_queue, none_gone}
use Rattle.sb_lawful_rows.specs.Storable.{RulePutsStorable}
use Rattle.sb_lawful_rows.specs.Work.{MayAct, IsLawfulWith}

abbrev no_extensions : Extensions
no_extensions = record { boxes = record { methods = []; attachments = [] }; methods = []; attachments = [] }

-- ---- r (a int), with a trigger that acts when a row comes, and s, without columns
abbrev acts : Action → Attached
acts act = record { name = codes "t"; rule = Trigger event.Insert Always act false; buckets = 0 }

abbrev first : Action → Rows → Relation
first act rows = record { method = 3; schema = int_column (codes "a") ∷ []; key = []; rows = rows; attachments = acts act ∷ [] }

abbrev second : Rows → Relation
second rows = record { method = 3; schema = []; key = []; rows = rows; attachments = [] }

abbrev database : Action → Rows → Rows → Db
database act rows others = (codes "r", first act rows) ∷ (codes "s", second others) ∷ []

abbrev before : Action → Going
before act = begun (database act [] []) no_queue none_gone 1 []

abbrev int : ℕ → Value
int n = Int (pos n)

-- such a database is lawful, where the trigger could be attached
lawful_with : (act : Action) → MayBe no_extensions (without_rule (database act [] []) (codes "r") (acts act)) (command.Attach (codes "r") (codes "t") (acts act).rule) → IsLawful no_extensions (database act [] [])
lawful_with act may = record {
  rising = tt;
  relations =
      All-cons (λ e. IsLawfulRelation no_extensions (database act [] []) e.0 e.1) (codes "r", first act []) ((codes "s", second []) ∷ []) (record {
        created = record { there = refl; new = refl; named = refl; fits = refl; alike = refl; within = refl };
        attached = All-cons (MayBeAttached no_extensions (database act [] []) (codes "r")) (acts act) [] (λ main. may) (All-nil _);
        mirrored = All-cons (λ a. HasMirror (database act [] []) (mirror_name (codes "r") a.name) (mirror_of (codes "r") a.rule)) (acts act) [] tt (All-nil _);
        mirrors = All-cons (λ a. is_mirror a.rule ≡ true → IsMirrorOf (database act [] []) (codes "r") a) (acts act) [] (λ is. absurd (cc)) (All-nil _);
        in_order = refl;
        apart = refl;
        rising = tt;
        rows = All-nil _;
      })
      (All-cons (λ e. IsLawfulRelation no_extensions (database act [] []) e.0 e.1) (codes "s", second []) [] (record {
        created = record { there = refl; new = refl; named = refl; fits = refl; alike = refl; within = refl };
        attached = All-nil _;
        mirrored = All-nil _;
        mirrors = All-nil _;
        in_order = refl;
        apart = refl;
        rising = tt;
        rows = All-nil _;
      }) (All-nil _));
}

abbrev db_after : {A : Type 0} → Outcome A → Option Db
db_after (Gives x g) = Some g.db
db_after (Stopped r trail) = None
db_after (NoStep trail) = None

abbrev key : Key
key = to_be_bytes w64 1

-- ---- a number of more than 64 bits
abbrev sets_much : Action
sets_much = action.Set (codes "r") (codes "a") (Const (int (2 ^ 63))) []

much_before : IsLawful no_extensions (database sets_much [] [])
much_before = lawful_with sets_much (record { there = refl; new = refl; named = refl; fits = refl; alike = refl; within = refl })

it_comes : db_after (change_within no_extensions 16 (codes "r") (Put (int 0 ∷ [])) (before sets_much)) ≡ Some (database sets_much ((key, int (2 ^ 63) ∷ []) ∷ []) [])
it_comes = refl

much_after : IsLawful no_extensions (database sets_much ((key, int (2 ^ 63) ∷ []) ∷ []) []) → ⊥
much_after lawful =
    let rows = (All-head (λ e. IsLawfulRelation no_extensions (database sets_much ((key, int (2 ^ 63) ∷ []) ∷ []) []) e.0 e.1) (codes "r", first sets_much ((key, int (2 ^ 63) ∷ []) ∷ [])) ((codes "s", second []) ∷ []) lawful.relations).rows in
    let row = All-head (λ x. IsRowOf (first sets_much ((key, int (2 ^ 63) ∷ []) ∷ [])) x.0 x.1) (key, int (2 ^ 63) ∷ []) [] rows in
    let fits = All-head IsStorable (int (2 ^ 63)) [] row.stored.tuple.storable in
    absurd (omega (arith, fits.sfits))

-- ---- a row without values
abbrev puts_none : Action
puts_none = action.Insert (codes "s") []

none_before : IsLawful no_extensions (database puts_none [] [])
none_before = lawful_with puts_none (record { there = refl; new = refl; named = refl; fits = refl; alike = refl; within = refl })

none_comes : db_after (change_within no_extensions 16 (codes "r") (Put (int 0 ∷ [])) (before puts_none)) ≡ Some (database puts_none ((key, int 0 ∷ []) ∷ []) ((key, []) ∷ []))
none_comes = refl

none_after : IsLawful no_extensions (database puts_none ((key, int 0 ∷ []) ∷ []) ((key, []) ∷ [])) → ⊥
none_after lawful =
    let db : Db = database puts_none ((key, int 0 ∷ []) ∷ []) ((key, []) ∷ []) in
    let others = All-tail (λ e. IsLawfulRelation no_extensions db e.0 e.1) (codes "r", first puts_none ((key, int 0 ∷ []) ∷ [])) ((codes "s", second ((key, []) ∷ [])) ∷ []) lawful.relations in
    let rows = (All-head (λ e. IsLawfulRelation no_extensions db e.0 e.1) (codes "s", second ((key, []) ∷ [])) [] others).rows in
    let row = All-head (λ x. IsRowOf (second ((key, []) ∷ [])) x.0 x.1) (key, []) [] rows in
    absurd (omega (arith, row.stored.tuple.some))

-- ---- a trigger that sets a column to itself
abbrev sets_it : Action
sets_it = action.Set (codes "r") (codes "a") (New (codes "a")) ((codes "a", Const (int 7)) ∷ [])

one_before : IsLawful no_extensions (database sets_it [] [])
one_before = lawful_with sets_it (record { there = refl; new = refl; named = refl; fits = refl; alike = refl; within = refl })

-- ---- over it an action waits that doesn't fit: a row of one value, where there is no column
abbrev before_commit : Going
before_commit = begun (database sets_it [] []) (record { actions = action.Insert (codes "s") (Const (int 7) ∷ []) ∷ []; entries = [] }) none_gone 1 []

misfit_comes : db_after (finish no_extensions before_commit) ≡ Some (database sets_it [] ((key, int 7 ∷ []) ∷ []))
misfit_comes = refl

misfit_after : IsLawful no_extensions (database sets_it [] ((key, int 7 ∷ []) ∷ [])) → ⊥
misfit_after lawful =
    let db : Db = database sets_it [] ((key, int 7 ∷ []) ∷ []) in
    let others = All-tail (λ e. IsLawfulRelation no_extensions db e.0 e.1) (codes "r", first sets_it []) ((codes "s", second ((key, int 7 ∷ []) ∷ [])) ∷ []) lawful.relations in
    let rows = (All-head (λ e. IsLawfulRelation no_extensions db e.0 e.1) (codes "s", second ((key, int 7 ∷ []) ∷ [])) [] others).rows in
    let row = All-head (λ x. IsRowOf (second ((key, int 7 ∷ []) ∷ [])) x.0 x.1) (key, int 7 ∷ []) [] rows in
    let fits = row.stored.fits in
    absurd (cc)

-- ---- over it an action waits that may
abbrev waits : Action
waits = action.Insert (codes "r") (Const (int 7) ∷ [])

well : IsLawfulWith no_extensions (database sets_it [] []) (waits ∷ [])
well = record {
  lawful = one_before;
  triggers =
      All-cons (λ e. All (λ a. RulePutsStorable a.rule) e.1.attachments) (codes "r", first sets_it []) ((codes "s", second []) ∷ []) (All-cons (λ a. RulePutsStorable a.rule) (acts sets_it) [] tt (All-nil _))
      (All-cons (λ e. All (λ a. RulePutsStorable a.rule) e.1.attachments) (codes "s", second []) [] (All-nil _) (All-nil _));
  waiting = All-cons (MayAct (database sets_it [] [])) waits [] (record {
    fits = record { there = refl; named = refl; fits = refl };
    puts = (omega arith, omega arith, search rules);
  }) (All-nil _);
}
