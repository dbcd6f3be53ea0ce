-- What a box answers that asks which rows have a number.
use Rattle.std.proofs.Common.{◌≡◌, ℕ, zero, suc, ◌≤◌, ◌<◌, nat_le, ◌&&◌, ◌||◌, Bool, true, false, cond, codes, List, [], ◌∷◌, length, map, take, get_or, All, Option, Some, None, option_map, refl, sym, ap, subst, ◌∙◌, arith, bytes_eq}
use Rattle.std.specs.List.{find as first, list_all, list_any}
use Rattle.std.specs.Cmp.Lexicographic.{pointwise, pointwise_decides}
use Rattle.std.proofs.lemmas.Bool.{and_parts}
use Rattle.std.proofs.lemmas.List.Elements.{All-head, All-tail}
use Rattle.std.proofs.lemmas.List.{take_all}
use Rattle.std.proofs.lemmas.Option.{same_Some}
use Rattle.sb_value.specs.declared.value.Value.{Value}
use Rattle.sb_value.specs.Equal.{bytes_same, tuple_eq, tuple_same}
use Rattle.sb_rule.specs.declared.change.Change.{Change}
use Rattle.sb_rule.specs.declared.rule.Rule.{Rule}
use Rattle.sb_rule.specs.declared.rule.Rule.TheVariants.{Foreign}
use Rattle.sb_rule.specs.Bound.{row_after}
use Rattle.sb_rule.specs.Spelling.{SpellsRule}
use Rattle.sb_relation.specs.Changes.{changed, of_new}
use Rattle.sb_relation.specs.Content.{no_content}
use Rattle.sb_relation.specs.Db.{Name, Key, Row, Rows, Db}
use Rattle.sb_forms.specs.Pages.{Pages}
use Rattle.sb_ctx.specs.declared.held.Found.{Found}
use Rattle.sb_ctx.specs.declared.instance.Instance.{Instance}
use Rattle.sb_ctx.specs.declared.calls.AttachCall.{AttachCall}
use Rattle.sb_ctx.specs.declared.calls.AttachCall.TheVariants as call
use Rattle.sb_ctx.specs.declared.moves.Move.{Move}
use Rattle.sb_ctx.specs.declared.moves.Move.TheVariants as move
use Rattle.sb_ctx.specs.AttachAnswers.{AsksFor, IsBroken, MayEnd, Answers, Built, Changed, Changes, Holds, Prepared, content_over, content_over_rows}
use Rattle.sb_ctx.specs.Laws.{IsAttachment}
use Rattle.sb_ctx.specs.View.{View, dropped, found_of, is_answer_to, keys_with, FoundIn, HoldsPart}
use Rattle.sb_ctx.proofs.AuthorLaws.{foreign_rule}
use Rattle.sb_ctx.proofs.BoundLaws.{IsBoundlessFor, Changes-idle_for, Changes-memory_for}
use Rattle.sb_foreign.specs.Onces.{once, once_rules, number_row, asked, is_once, is_refused, known_once, AreOnce, Stops, Judges}
use Rattle.sb_foreign.proofs.WatchedLaws.{of_row, of_none, Keeps-new, HoldContent-always}

pub IsAttachment-once : IsAttachment once
IsAttachment-once = record { pageless = λ is. cc; searches = λ content query. refl; idle = λ is. cc; standard = λ ours content. omega (arith, ours); charged = λ keeps ours. absurd (omega (arith, ours)); inserts = λ key row before after. omega arith; formed = HoldContent-always once_rules no_content refl }

boundless_once : IsBoundlessFor once
boundless_once = record { bound = λ content. refl; cost = λ c before after. refl; path = λ inst P c n. refl; code = refl }

-- ---- finds
-- the answer that is known is right over the database
answered : (db : Db) (relation : Name) (columns : List Name) (values : List Value) (f : Found) → is_answer_to relation columns values f ≡ true → f.keys ≡ keys_with db f.relation f.columns f.values → f.keys ≡ keys_with db relation columns values
answered db relation columns values f is keys =
    let two = and_parts (bytes_eq f.relation relation && pointwise bytes_eq f.columns columns) (tuple_eq f.values values) is in
    let one = and_parts (bytes_eq f.relation relation) (pointwise bytes_eq f.columns columns) two.0 in
    keys ∙ λ i. keys_with db ((bytes_same f.relation relation).0 one.0 i) ((pointwise_decides bytes_same f.columns columns).0 one.1 i) ((tuple_same f.values values).0 two.1 i)

found_keys : (db : Db) (relation : Name) (columns : List Name) (values : List Value) (found : List Found) (keys : List Key) → All (λ f. f.keys ≡ keys_with db f.relation f.columns f.values) found
    → option_map (λ f. f.keys) (first (is_answer_to relation columns values) found) ≡ Some keys → keys ≡ keys_with db relation columns values
found_keys db relation columns values [] keys over is = cc
found_keys db relation columns values (f ∷ found) keys over is =
    elim (is_answer_to relation columns values f) as (λ t. is_answer_to relation columns values f ≡ t → option_map (λ f. f.keys) (cond t (Some f) (first (is_answer_to relation columns values) found)) ≡ Some keys → keys ≡ keys_with db relation columns values) [
      | true ↦ λ fits here. let same : keys ≡ f.keys = cc in same ∙ answered db relation columns values f fits (All-head (λ f. f.keys ≡ keys_with db f.relation f.columns f.values) f found over)
      | false ↦ λ other there. found_keys db relation columns values found keys (All-tail (λ f. f.keys ≡ keys_with db f.relation f.columns f.values) f found over) there
    ] refl is

-- what is known of a row is so over the database
known : (c : View) (db : Db) (relation : Name) (row : Row) (b : Bool) → FoundIn c db → known_once c relation row ≡ Some b → is_once db relation row ≡ b
known c db relation row b over is = by (found_of c relation (codes "k" ∷ []) row) refl is
  where
    by : (o : Option (List Key)) → found_of c relation (codes "k" ∷ []) row ≡ o → option_map (λ keys. nat_le (length keys) 1) o ≡ Some b → is_once db relation row ≡ b
    by None there is = cc
    by (Some keys) there is = ap (λ (ks : List Key). nat_le (length ks) 1) (sym (found_keys db relation (codes "k" ∷ []) row c.found keys over there)) ∙ same_Some (nat_le (length keys) 1) b is

all_known : (c : View) (db : Db) (relation : Name) (rows : List Row) → FoundIn c db → All (λ row. known_once c relation row ≡ Some true) rows → list_all (is_once db relation) rows ≡ true
all_known c db relation [] over all = refl
all_known c db relation (row ∷ rows) over all =
    ap (λ b. b && list_all (is_once db relation) rows) (known c db relation row true over (All-head (λ r. known_once c relation r ≡ Some true) row rows all))
    ∙ all_known c db relation rows over (All-tail (λ r. known_once c relation r ≡ Some true) row rows all)

one_refused : (c : View) (db : Db) (relation : Name) (rows : List Row) → FoundIn c db → list_any (λ row. is_refused (known_once c relation row)) rows ≡ true → list_all (is_once db relation) rows ≡ false
one_refused c db relation [] over some = cc
one_refused c db relation (row ∷ rows) over some = by (one_refused c db relation rows over) (known_once c relation row) refl some
  where
    none : (b : Bool) → (b && false) ≡ false
    none true = refl
    none false = refl

    later : list_all (is_once db relation) rows ≡ false → (is_once db relation row && list_all (is_once db relation) rows) ≡ false
    later fails = ap (λ b. is_once db relation row && b) fails ∙ none (is_once db relation row)

    by : (list_any (λ r. is_refused (known_once c relation r)) rows ≡ true → list_all (is_once db relation) rows ≡ false) → (o : Option Bool) → known_once c relation row ≡ o → (is_refused o || list_any (λ r. is_refused (known_once c relation r)) rows) ≡ true → (is_once db relation row && list_all (is_once db relation) rows) ≡ false
    by rest (Some false) is here = ap (λ b. b && list_all (is_once db relation) rows) (known c db relation row false over is)
    by rest (Some true) is there = later (rest there)
    by rest None is there = later (rest there)

-- ---- numbers that are asked for, one after another
or_later : (a b : Bool) → b ≡ true → (a || b) ≡ true
or_later true b is = refl
or_later false b is = is

-- it stops at the number of one place
pub Stops-at : (c : View) (relation : Name) (numbers : List ℕ) (place : ℕ) (row : Row) (made : Move) → place < length numbers → row ≡ number_row (get_or numbers place 0)
    → Stops c relation (row ∷ []) made → Stops c relation (map number_row numbers) made
Stops-at c relation numbers place row made less is stops = by made stops
  where
    refused : Row → Bool
    refused row = is_refused (known_once c relation row)

    any : (numbers : List ℕ) (place : ℕ) → place < length numbers → refused (number_row (get_or numbers place 0)) ≡ true → list_any refused (map number_row numbers) ≡ true
    any [] place less here = absurd (omega (arith, less))
    any (n ∷ numbers) zero less here = ap (λ b. b || list_any refused (map number_row numbers)) here
    any (n ∷ numbers) (suc place) less here = or_later (refused (number_row n)) (list_any refused (map number_row numbers)) (any numbers place (omega (arith, less)) here)

    alone : (b : Bool) → (b || false) ≡ true → b ≡ true
    alone true is = refl
    alone false is = is

    by : (made : Move) → Stops c relation (row ∷ []) made → Stops c relation (map number_row numbers) made
    by move.Veto stops = any numbers place less (ap refused (sym is) ∙ alone (refused row) stops)
    by (move.Find other columns values) stops = tt
    by move.NoMemory stops = tt
    by _ stops = absurd stops

-- all numbers
pub AreOnce-all : (c : View) (relation : Name) (numbers : List ℕ) (place : ℕ) → length numbers ≤ place → AreOnce c relation (map number_row (take place numbers)) → AreOnce c relation (map number_row numbers)
AreOnce-all c relation numbers place all so_far = subst (λ (l : List ℕ). AreOnce c relation (map number_row l)) (take_all place numbers all) so_far

-- ---- calls
-- a call that leaves all as it is, and ends as the database says
ended : (inst : Instance) (c : AttachCall) (old : View) (made : Move) → dropped old ≡ old → AsksFor old made → IsBroken once inst old made → MayEnd c made →
    ((P : Pages) → HoldsPart old P → Answers once inst c old P P made) → Changes once inst c old old made
ended inst c old made clean asks broken may ends = Changes-idle_for once inst c old made boundless_once clean asks broken may ends

foreign : (inst : Instance) (rule : Rule) → SpellsRule 1001 inst.desc rule → rule ≡ Foreign 1001 inst.desc
foreign inst rule spells = foreign_rule 1001 inst.desc rule (omega arith) spells

pub Changes-prepared : (inst : Instance) (old : View) → dropped old ≡ old → Changes once inst call.Prepare old old move.Done
Changes-prepared inst old clean = ended inst call.Prepare old move.Done clean tt tt tt (λ P part new rule db stands.
    subst (λ (r : Rule). Prepared once inst r db P move.Done) (sym (foreign inst rule stands.spelled)) (Keeps-new no_content inst P (new inst.root)))

pub Changes-built : (inst : Instance) (key : Key) (row : Row) (old : View) (made : Move) → dropped old ≡ old → Judges old inst.relation (asked inst.desc row) made → AsksFor old made → Changes once inst (call.Build key row) old old made
Changes-built inst key row old made clean judges asks = by made judges asks
  where
    over : (rule : Rule) (db : Db) (built : Rows) (buckets : ℕ) (P : Pages) (made : Move) → rule ≡ Foreign 1001 inst.desc → Holds once inst P (content_over_rows once inst rule db built buckets)
        → (Holds once inst P (content_over_rows once inst (Foreign 1001 inst.desc) db built buckets) → Built once inst (Foreign 1001 inst.desc) db built buckets key row P made) → Built once inst rule db built buckets key row P made
    over rule db built buckets P made is holds ends = subst (λ (r : Rule). Built once inst r db built buckets key row P made) (sym is) (ends (subst (λ (r : Rule). Holds once inst P (content_over_rows once inst r db built buckets)) is holds))

    by : (made : Move) → Judges old inst.relation (asked inst.desc row) made → AsksFor old made → Changes once inst (call.Build key row) old old made
    by move.Done judges asks = ended inst (call.Build key row) old move.Done clean tt tt tt (λ P part rule db stands built buckets before.
        over rule db built buckets P move.Done (foreign inst rule stands.spelled) before.content (λ holds. (all_known old db inst.relation (asked inst.desc row) before.found judges, holds)))
    by move.Veto judges asks = ended inst (call.Build key row) old move.Veto clean tt tt tt (λ P part rule db stands built buckets before.
        over rule db built buckets P move.Veto (foreign inst rule stands.spelled) before.content (λ holds. (one_refused old db inst.relation (asked inst.desc row) before.found judges, (_, holds))))
    by (move.Find relation columns values) judges asks = ended inst (call.Build key row) old (move.Find relation columns values) clean asks tt tt (λ P part. tt)
    by move.NoMemory judges asks = Changes-memory_for once inst (call.Build key row) old boundless_once clean
    by _ judges asks = absurd judges

pub Changes-changed : (inst : Instance) (c : Change) (row : Row) (old : View) (made : Move) → dropped old ≡ old → row_after c ≡ Some row → Judges old inst.relation (asked inst.desc row) made → AsksFor old made → Changes once inst (call.Changed c) old old made
Changes-changed inst c row old made clean is judges asks = by made judges asks
  where
    over : (rule : Rule) (db : Db) (buckets : ℕ) (P : Pages) (made : Move) → rule ≡ Foreign 1001 inst.desc → Holds once inst P (content_over once inst rule db buckets)
        → (Holds once inst P (content_over once inst (Foreign 1001 inst.desc) db buckets) → Changed once inst (Foreign 1001 inst.desc) db buckets c P made) → Changed once inst rule db buckets c P made
    over rule db buckets P made same holds ends = subst (λ (r : Rule). Changed once inst r db buckets c P made) (sym same) (ends (subst (λ (r : Rule). Holds once inst P (content_over once inst r db buckets)) same holds))

    admits : (db : Db) → of_new c (λ key new. list_all (is_once db inst.relation) (asked inst.desc new)) ≡ list_all (is_once db inst.relation) (asked inst.desc row)
    admits db = of_row c row (λ new. list_all (is_once db inst.relation) (asked inst.desc new)) is

    by : (made : Move) → Judges old inst.relation (asked inst.desc row) made → AsksFor old made → Changes once inst (call.Changed c) old old made
    by move.Done judges asks = ended inst (call.Changed c) old move.Done clean tt tt tt (λ P part rule db stands buckets before.
        over rule db buckets P move.Done (foreign inst rule stands.spelled) before.content (λ holds. record {
          admitted = admits (changed db inst.relation c) ∙ all_known old (changed db inst.relation c) inst.relation (asked inst.desc row) before.found judges;
          holds = holds;
          now_are = refl;
          late_are = refl;
          checks_are = refl;
        }))
    by move.Veto judges asks = ended inst (call.Changed c) old move.Veto clean tt tt tt (λ P part rule db stands buckets before.
        over rule db buckets P move.Veto (foreign inst rule stands.spelled) before.content (λ holds. (admits (changed db inst.relation c) ∙ one_refused old (changed db inst.relation c) inst.relation (asked inst.desc row) before.found judges, (_, holds))))
    by (move.Find relation columns values) judges asks = ended inst (call.Changed c) old (move.Find relation columns values) clean asks tt tt (λ P part. tt)
    by move.NoMemory judges asks = Changes-memory_for once inst (call.Changed c) old boundless_once clean
    by _ judges asks = absurd judges

pub Changes-deleted : (inst : Instance) (c : Change) (old : View) → dropped old ≡ old → row_after c ≡ None → Changes once inst (call.Changed c) old old move.Done
Changes-deleted inst c old clean is = ended inst (call.Changed c) old move.Done clean tt tt tt (λ P part rule db stands buckets before.
    subst (λ (r : Rule). Changed once inst r db buckets c P move.Done) (sym (foreign inst rule stands.spelled)) (record {
      admitted = of_none c (λ new. list_all (is_once (changed db inst.relation c) inst.relation) (asked inst.desc new)) is;
      holds = subst (λ (r : Rule). Holds once inst P (content_over once inst r db buckets)) (foreign inst rule stands.spelled) before.content;
      now_are = refl;
      late_are = refl;
      checks_are = refl;
    }))
