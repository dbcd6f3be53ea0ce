-- What a count answers.
use Rattle.std.proofs.Common.{◌≡◌, ◌≢◌, ℕ, ◌+◌, ◌<◌, ◌≤◌, ◌==◌, nat_le, Bool, true, false, cond, ◌&&◌, List, [], ◌∷◌, length, drop, Option, Some, None, option_map, is_none, is_some, pos, refl, sym, ap, subst, ◌∙◌, arith, eq-eqb, eqb-true, length-append}
use Rattle.std.specs.Int.{to_be_bytes, w64}
use Rattle.std.proofs.lemmas.Bool.Decides.{nat_tests}
use Rattle.std.proofs.lemmas.Nat.{from_be_bytes-to_be_bytes_8}
use Rattle.std.proofs.lemmas.Option.{same_Some}
use Rattle.sb_value.specs.declared.schema.Column.{Column}
use Rattle.sb_value.specs.declared.value.Value.{Value}
use Rattle.sb_rule.specs.declared.change.Change.{Change}
use Rattle.sb_rule.specs.declared.change.Change.TheVariants as change
use Rattle.sb_rule.specs.declared.rule.Rule.{Rule}
use Rattle.sb_rule.specs.declared.rule.Rule.TheVariants.{Foreign}
use Rattle.sb_relation.specs.Changes.{changed, changed_rows}
use Rattle.sb_relation.specs.Content.{Content, are_rising}
use Rattle.sb_relation.specs.Db.{Name, Key, Row, Rows, Relation, Db, relation_at, rows_at, with_row, with_rows}
use Rattle.sb_relation.specs.Lawful.{AreRows}
use Rattle.sb_forms.specs.Pages.{Pages, page_count, zeros, new_pages}
use Rattle.sb_ctx.specs.declared.instance.Instance.{Instance}
use Rattle.sb_ctx.specs.declared.calls.AttachCall.{AttachCall}
use Rattle.sb_ctx.specs.declared.calls.AttachCall.TheVariants as call
use Rattle.sb_ctx.specs.declared.moves.Move.{Move}
use Rattle.sb_ctx.specs.declared.moves.Move.TheVariants as move
use Rattle.sb_ctx.specs.Attachment.{StandsOn, IsChangeOf}
use Rattle.sb_ctx.specs.AttachAnswers.{Ends, MayEnd, Built, Changed, Changes, Looks, Costs, Holds, Prepared, Spends, content_over, content_over_rows, NotNew}
use Rattle.sb_ctx.specs.Laws.{IsAttachment, HoldContent}
use Rattle.sb_ctx.specs.Sized.{IsCtx}
use Rattle.sb_bytes.specs.Bytes.{splice}
use Rattle.sb_ctx.specs.View.{View, HeldPages, AreSomeOf, page_of, given_at, dropped, HoldsPart, edits_of, stored}
use Rattle.sb_ctx.proofs.ViewLaws.{stored-clean, stored-same, given-page, dropped-with_page}
use Rattle.sb_ctx.proofs.AuthorLaws.{foreign_rule, rows_at-with_rows, length-with_row, length-without_row, length-moved_row, edits_of-one, edits_of-none, page_count-one, page_count-written, given_at-page, relation_at-changed}
use Rattle.sb_foreign.specs.declared.count.Step.{Step}
use Rattle.sb_foreign.specs.declared.count.Step.TheVariants.{Up, Down}
use Rattle.sb_foreign.specs.Counts.{number_in, count_in, count_of, counted, has_no_count, count, stepped, IsWritten, Steps}
use Rattle.sb_foreign.proofs.WatchedLaws.{root_of_new}

-- ---- formed pages
pub record IsFormed (inst : Instance) (P : Pages) (content : Content) : Type 0 where
  pub rows : ℕ
  pub few : page_count P ≤ 1
  pub there : count_in (P inst.root) ≡ Some rows
  pub is : content ≡ counted rows

pub IsFormed-held : (inst : Instance) (P : Pages) (content : Content) → Holds count inst P content → IsFormed inst P content
IsFormed-held inst P content holds = by (nat_le (page_count P) 1) (count_in (P inst.root)) refl refl holds
  where
    less : (n : ℕ) → nat_le n 1 ≡ true → n ≤ 1
    less n is = grind (arith, nat_tests)

    by : (b : Bool) (o : Option ℕ) → nat_le (page_count P) 1 ≡ b → count_in (P inst.root) ≡ o → cond b (option_map counted o) None ≡ Some content → IsFormed inst P content
    by true (Some rows) few there is = record { rows = rows; few = less (page_count P) few; there = there; is = sym (same_Some (counted rows) content is) }
    by true None few there is = cc
    by false o few there is = cc

pub Holds-formed : (inst : Instance) (P : Pages) (rows : ℕ) → page_count P ≤ 1 → count_in (P inst.root) ≡ Some rows → Holds count inst P (counted rows)
Holds-formed inst P rows few there = ap (λ b. cond b (option_map counted (count_in (P inst.root))) None) (less (page_count P) few) ∙ ap (option_map counted) there
  where
    less : (n : ℕ) → n ≤ 1 → nat_le n 1 ≡ true
    less n is = grind (arith, nat_tests)

-- a page with a count has bytes
some_page : (page : List ℕ) (rows : ℕ) → count_in page ≡ Some rows → page ≢ []
some_page page rows is none = absurd (no (sym is ∙ ap count_in none))
  where
    no : (Some rows ≡ None) → ⊥
    no e = cc

pub IsAttachment-count : IsAttachment count
IsAttachment-count = record { pageless = λ is. cc; searches = λ content query. refl; idle = λ is. cc; standard = λ ours content. omega (arith, ours); charged = λ keeps ours. absurd (omega (arith, ours)); inserts = λ key row before after. omega arith; formed = λ inst P content holds. kept inst P content (IsFormed-held inst P content holds) }
  where
    whole : (inst : Instance) (P : Pages) (rows : ℕ) → count_in (P inst.root) ≡ Some rows → (held : HeldPages) (n : ℕ) → AreSomeOf held P → ((n == inst.root) && has_no_count (held n)) ≡ false
    whole inst P rows there held n some = by (n == inst.root) (held n) refl refl
      where
        by : (b : Bool) (o : Option (List ℕ)) → n == inst.root ≡ b → held n ≡ o → (b && has_no_count o) ≡ false
        by false o at is = refl
        by true None at is = refl
        by true (Some page) at is = ap is_none (ap count_in (sym (some n page is) ∙ ap P (eqb-true n inst.root at)) ∙ there)

    kept : (inst : Instance) (P : Pages) (content : Content) → IsFormed inst P content → HoldContent count inst P content
    kept inst P content formed = record {
      rising = ap (λ (c : Content). are_rising c.entries) formed.is;
      root = λ owned. some_page (P inst.root) formed.rows formed.there;
      bound = λ are. formed.few;
      whole = whole inst P formed.rows formed.there;
    }

-- ---- a new instance
count-zeros : count_in zeros ≡ Some 0
unfolding zeros
count-zeros = refl

Holds-new : (inst : Instance) (P : Pages) → ((n : ℕ) → P n ≡ new_pages inst.root n) → Holds count inst P (counted 0)
Holds-new inst P new = Holds-formed inst P 0 (page_count-one P inst.root (λ n some. by n (n == inst.root) refl some)) (ap count_in (root_of_new P inst.root (new inst.root)) ∙ count-zeros)
  where
    by : (n : ℕ) (b : Bool) → n == inst.root ≡ b → P n ≢ [] → n ≡ inst.root
    by n true at some = eqb-true n inst.root at
    by n false at some = absurd (some (new n ∙ ap (λ t. cond t zeros []) at))

-- ---- the contents over a database
foreign : (inst : Instance) (rule : Rule) (db : Db) → StandsOn count inst rule db → rule ≡ Foreign 1002 inst.desc
foreign inst rule db stands = foreign_rule 1002 inst.desc rule (omega arith) stands.spelled

-- so many rows, in so many buckets
abbrev counted_with : ℕ → ℕ → Content
counted_with rows buckets = record { entries = []; sums = pos rows ∷ []; counts = count_of rows ∷ []; buckets = buckets }

-- what the pages hold over so many rows
pub record IsCount (inst : Instance) (P : Pages) (rows buckets : ℕ) : Type 0 where
  pub few : page_count P ≤ 1
  pub there : count_in (P inst.root) ≡ Some rows
  pub none : buckets ≡ 0

IsCount-held : (inst : Instance) (P : Pages) (rows buckets : ℕ) → Holds count inst P (counted_with rows buckets) → IsCount inst P rows buckets
IsCount-held inst P rows buckets holds =
    let formed = IsFormed-held inst P (counted_with rows buckets) holds in
    record {
      few = formed.few;
      there = formed.there ∙ ap Some (sym (one rows formed.rows (ap (λ (c : Content). c.sums) formed.is)));
      none = ap (λ (c : Content). c.buckets) formed.is;
    }
  where
    one : (a b : ℕ) → pos a ∷ [] ≡ pos b ∷ [] → a ≡ b
    one a b e = cc

Holds-count : (inst : Instance) (P : Pages) (rows buckets : ℕ) → IsCount inst P rows buckets → Holds count inst P (counted_with rows buckets)
Holds-count inst P rows buckets is = subst (λ n. Holds count inst P (counted_with rows n)) (sym is.none) (Holds-formed inst P rows is.few is.there)

-- ---- the page that is written
written_page : (page : List ℕ) (rows : ℕ) → 8 ≤ length page → rows ≤ 281474976710656 → count_in (splice 0 (to_be_bytes w64 rows) page) ≡ Some rows
written_page page rows long few =
    ap (λ b. cond (b && nat_le (number_in now) 281474976710656) (Some (number_in now)) None) (test 8 (length now) room)
    ∙ ap (λ n. cond (nat_le n 281474976710656) (Some n) None) number
    ∙ ap (λ b. cond b (Some rows) None) (test rows 281474976710656 few)
  where
    now : List ℕ
    now = splice 0 (to_be_bytes w64 rows) page

    test : (a b : ℕ) → a ≤ b → nat_le a b ≡ true
    test a b less = grind (arith, nat_tests)

    room : 8 ≤ length now
    room = omega (arith, length-append (to_be_bytes w64 rows) (drop 8 page))

    number : number_in now ≡ rows
    number = from_be_bytes-to_be_bytes_8 rows (omega (arith, few))

long_page : (page : List ℕ) (rows : ℕ) → count_in page ≡ Some rows → (8 ≤ length page) × (rows ≤ 281474976710656)
long_page page rows is = by (nat_le 8 (length page)) (nat_le (number_in page) 281474976710656) refl refl is
  where
    less : (a b : ℕ) → nat_le a b ≡ true → a ≤ b
    less a b is = grind (arith, nat_tests)

    by : (a b : Bool) → nat_le 8 (length page) ≡ a → nat_le (number_in page) 281474976710656 ≡ b → cond (a && b) (Some (number_in page)) None ≡ Some rows → (8 ≤ length page) × (rows ≤ 281474976710656)
    by true true long few is = (less 8 (length page) long, subst (λ n. n ≤ 281474976710656) (same_Some (number_in page) rows is) (less (number_in page) 281474976710656 few))
    by true false long few is = cc
    by false b long few is = cc

-- over pages of a count, the pages once it is written hold the next one
IsCount-written : (inst : Instance) (step : Step) (old new : View) (P : Pages) (rows buckets : ℕ) → dropped old ≡ old → HoldsPart old P → IsWritten inst.root step old new → IsCount inst P rows buckets
    → stepped step rows ≤ 281474976710656 → IsCount inst (stored new P) (stepped step rows) buckets
IsCount-written inst step old new P rows buckets clean part written is few =
    let given : P inst.root ≡ written.page = given-page old P inst.root written.page clean part written.held in
    let long = long_page written.page written.rows written.count in
    let same : written.rows ≡ rows = same_Some written.rows rows (sym written.count ∙ ap count_in (sym given) ∙ is.there) in
    let bytes = splice 0 (to_be_bytes w64 (stepped step written.rows)) written.page in
    let now : count_in bytes ≡ Some (stepped step rows) = written_page written.page (stepped step written.rows) long.0 (subst (λ n. stepped step n ≤ 281474976710656) (sym same) few) ∙ ap (λ n. Some (stepped step n)) same in
    let held = ap is_some written.held in
    subst (λ (v : View). IsCount inst (stored v P) (stepped step rows) buckets) (sym written.is) (record {
      few = subst (λ n. n ≤ 1) (sym (page_count-written old P inst.root bytes clean part held (some_page (P inst.root) rows is.there) (some_page bytes (stepped step rows) now))) is.few;
      there = ap count_in (stored-same old P inst.root bytes held) ∙ now;
      none = is.none;
    })

edits-written : (inst : Instance) (step : Step) (old new : View) (P : Pages) (rows buckets : ℕ) → dropped old ≡ old → HoldsPart old P → IsCtx new → IsWritten inst.root step old new → IsCount inst P rows buckets → edits_of new ≤ 1
edits-written inst step old new P rows buckets clean part ctx written is =
    let bytes = splice 0 (to_be_bytes w64 (stepped step written.rows)) written.page in
    subst (λ (v : View). edits_of v ≤ 1) (sym written.is) (edits_of-one old P inst.root bytes clean part (some_page (P inst.root) rows is.there) some (subst IsCtx written.is ctx))
  where
    some : splice 0 (to_be_bytes w64 (stepped step written.rows)) written.page ≢ []
    some none = omega (arith, ap length none, length-append (to_be_bytes w64 (stepped step written.rows)) (drop 8 written.page))

-- ---- calls
costs : (inst : Instance) (c : AttachCall) (step : Step) (old new : View) (P : Pages) (rows buckets : ℕ) (before after : Content) (made : Move) → dropped old ≡ old → HoldsPart old P → IsCtx new
    → IsCount inst P rows buckets → Steps inst.root step old new made → Costs count inst c P before after new made
costs inst c step old new P rows buckets before after made clean part ctx is steps = by made steps
  where
    none : new ≡ old → edits_of new ≤ 1
    none same = subst (λ (v : View). edits_of v ≤ 1) (sym same) (omega (arith, edits_of-none old P clean (subst IsCtx same ctx) part))

    by : (made : Move) → Steps inst.root step old new made → Costs count inst c P before after new made
    by (move.Need n) steps = record { path = eq-eqb n inst.root steps.0; room = tt; edits = none steps.2 }
    by (move.Broken n) steps = record { path = tt; room = tt; edits = none steps.2 }
    by move.Done steps = record { path = tt; room = tt; edits = edits-written inst step old new P rows buckets clean part ctx steps is }
    by move.NoMemory steps = record { path = tt; room = tt; edits = none steps }
    by _ steps = absurd steps

-- what a call that writes the page answers: over each database that it stands on, the pages are a count before, and the next one after
pub Changes-stepped : (inst : Instance) (c : AttachCall) (step : Step) (old new : View) (made : Move) → ((P : Pages) → NotNew count inst c P) → dropped old ≡ old → MayEnd c move.Done → Steps inst.root step old new made
    → ((P : Pages) → HoldsPart old P → IsWritten inst.root step old new → Ends count inst c old P (stored new P) move.Done)
    → (IsCtx new → (P : Pages) → HoldsPart old P → Spends count inst c old P new made) → Changes count inst c old new made
Changes-stepped inst c step old new made other clean may steps ends spends = by made steps spends
  where
    has_none : (o : Option (List ℕ)) (page : Option (List ℕ)) → page ≡ o → option_map count_in o ≡ Some None → has_no_count o ≡ true
    has_none None page same is = cc
    has_none (Some l) page same is = ap is_none (same_Some (count_in l) None is)

    given_bytes : (o : Option (List ℕ)) → page_of old inst.root ≡ o → option_map count_in o ≡ Some None → (given_at old inst.root ≡ o) × (is_some o ≡ true)
    given_bytes None at is = cc
    given_bytes (Some l) at is = (given_at-page old inst.root l clean at, refl)

    by : (made : Move) → Steps inst.root step old new made → (IsCtx new → (P : Pages) → HoldsPart old P → Spends count inst c old P new made) → Changes count inst c old new made
    by (move.Need n) steps spends = record {
      given = ap dropped steps.2 ∙ clean;
      asks = ap (λ (v : View). page_of v n) steps.2 ∙ ap (page_of old) steps.0 ∙ steps.1;
      broken = tt;
      ends = tt;
      answers = λ P part. tt;
      spends = spends;
    }
    by (move.Broken n) steps spends =
        let bytes = given_bytes (page_of old inst.root) refl steps.1 in
        record {
          given = ap dropped steps.2 ∙ clean;
          asks = ap (λ (v : View). is_some (page_of v n)) steps.2 ∙ ap (λ k. is_some (page_of old k)) steps.0 ∙ bytes.1;
          broken = (λ i. (steps.0 i == inst.root) && has_no_count (given_at old (steps.0 i))) ∙ (λ i. eq-eqb inst.root inst.root refl i && has_no_count (bytes.0 i)) ∙ has_none (page_of old inst.root) (page_of old inst.root) refl steps.1;
          ends = tt;
          answers = λ P part. other P;
          spends = spends;
        }
    by move.Done steps spends = record {
      given = ap dropped steps.is ∙ dropped-with_page old inst.root (splice 0 (to_be_bytes w64 (stepped step steps.rows)) steps.page) ∙ clean;
      asks = tt;
      broken = tt;
      ends = may;
      answers = λ P part. ends P part steps;
      spends = spends;
    }
    by move.NoMemory steps spends = record { given = ap dropped steps ∙ clean; asks = tt; broken = tt; ends = tt; answers = λ P part. tt; spends = spends }
    by _ steps spends = absurd steps

-- a row that is built
built_before : (inst : Instance) (rule : Rule) (db : Db) (built : Rows) (buckets : ℕ) (P : Pages) → StandsOn count inst rule db → Holds count inst P (content_over_rows count inst rule db built buckets) → IsCount inst P (length built) buckets
built_before inst rule db built buckets P stands holds =
    IsCount-held inst P (length built) buckets (subst (λ (rows : Rows). Holds count inst P (counted_with (length rows) buckets)) (rows_at-with_rows db inst.relation built stands.relation stands.there)
    (subst (λ (r : Rule). Holds count inst P (content_over_rows count inst r db built buckets)) (foreign inst rule db stands) holds))

up : (n : ℕ) → n < 281474976710656 → stepped Up n ≡ n + 1
up n few = omega (arith, few)

pub Changes-built : (inst : Instance) (key : Key) (row : Row) (old new : View) (made : Move) → dropped old ≡ old → Steps inst.root Up old new made → Changes count inst (call.Build key row) old new made
Changes-built inst key row old new made clean steps =
    Changes-stepped inst (call.Build key row) Up old new made (λ P. tt) clean tt steps
    (λ P part written rule db stands built buckets before.
    let is = built_before inst rule db built buckets P stands before.content in
    let more = length-with_row built key row before.lawful.rising before.of.new in
    let next = up (length built) before.lawful.few in
    let after = IsCount-written inst Up old new P (length built) buckets clean part written is (omega (arith, next, before.lawful.few)) in
    let rows = rows_at-with_rows db inst.relation (with_row built key row) stands.relation stands.there in
    subst (λ (r : Rule). Built count inst r db built buckets key row (stored new P) move.Done) (sym (foreign inst rule db stands))
    (refl, subst (λ n. Holds count inst (stored new P) (counted_with n buckets)) (next ∙ sym more ∙ ap length (sym rows)) (Holds-count inst (stored new P) (stepped Up (length built)) buckets after)))
    (λ ctx P part rule db stands built buckets before. costs inst (call.Build key row) Up old new P (length built) buckets _ _ made clean part ctx (built_before inst rule db built buckets P stands before.content) steps)

-- a change
changed_before : (inst : Instance) (rule : Rule) (db : Db) (buckets : ℕ) (P : Pages) → StandsOn count inst rule db → Holds count inst P (content_over count inst rule db buckets) → IsCount inst P (length (rows_at db inst.relation)) buckets
changed_before inst rule db buckets P stands holds =
    IsCount-held inst P (length (rows_at db inst.relation)) buckets (subst (λ (r : Rule). Holds count inst P (content_over count inst r db buckets)) (foreign inst rule db stands) holds)

rising : (inst : Instance) (rule : Rule) (db : Db) (stands : StandsOn count inst rule db) → AreRows stands.relation.schema (rows_at db inst.relation)
rising inst rule db stands = subst (λ (rows : Rows). AreRows stands.relation.schema rows) (sym (ap (λ (o : Option Relation). elim o [ None ↦ [] | Some r ↦ r.rows ]) stands.there)) (stands.lawful inst.relation stands.relation stands.there)

rows_at-changed : (db : Db) (name : Name) (c : Change) (r : Relation) → relation_at db name ≡ Some r → rows_at (changed db name c) name ≡ changed_rows (rows_at db name) c
rows_at-changed db name c r there =
    ap (λ (o : Option Relation). elim o [ None ↦ [] | Some q ↦ q.rows ]) (relation_at-changed db name c r there)
    ∙ sym (ap (λ (o : Option Relation). changed_rows (elim o [ None ↦ [] | Some q ↦ q.rows ]) c) there)

-- the pages hold the content over the changed rows, of which there are so many
changed_after : (inst : Instance) (rule : Rule) (db : Db) (buckets : ℕ) (c : Change) (P : Pages) (rows : ℕ) → StandsOn count inst rule db → IsCount inst P rows buckets → rows ≡ length (changed_rows (rows_at db inst.relation) c)
    → Changed count inst rule db buckets c P move.Done
changed_after inst rule db buckets c P rows stands is same =
    subst (λ (r : Rule). Changed count inst r db buckets c P move.Done) (sym (foreign inst rule db stands)) (record {
      admitted = refl;
      holds = subst (λ n. Holds count inst P (counted_with n buckets)) (same ∙ ap length (sym (rows_at-changed db inst.relation c stands.relation stands.there))) (Holds-count inst P rows buckets is);
      now_are = refl;
      late_are = refl;
      checks_are = refl;
    })

-- a row more or less
pub Changes-moved : (inst : Instance) (c : Change) (step : Step) (old new : View) (made : Move) → dropped old ≡ old → Steps inst.root step old new made
    → ((schema : List Column) (rows : Rows) → AreRows schema rows → IsChangeOf rows c → length (changed_rows rows c) ≤ 281474976710656 → stepped step (length rows) ≡ length (changed_rows rows c)) → Changes count inst (call.Changed c) old new made
Changes-moved inst c step old new made clean steps next =
    Changes-stepped inst (call.Changed c) step old new made (λ P. tt) clean tt steps
    (λ P part written rule db stands buckets before.
    let is = changed_before inst rule db buckets P stands before.content in
    let few = before.lawful.few in
    let same = next stands.relation.schema (rows_at db inst.relation) (rising inst rule db stands) before.of (omega (arith, few)) in
    changed_after inst rule db buckets c (stored new P) (stepped step (length (rows_at db inst.relation))) stands (IsCount-written inst step old new P (length (rows_at db inst.relation)) buckets clean part written is (omega (arith, few, same))) same)
    (λ ctx P part rule db stands buckets before. costs inst (call.Changed c) step old new P (length (rows_at db inst.relation)) buckets _ _ made clean part ctx (changed_before inst rule db buckets P stands before.content) steps)

pub Changes-inserted : (inst : Instance) (key : Key) (row : Row) (old new : View) (made : Move) → dropped old ≡ old → Steps inst.root Up old new made → Changes count inst (call.Changed (change.Insert key row)) old new made
Changes-inserted inst key row old new made clean steps = Changes-moved inst (change.Insert key row) Up old new made clean steps
    (λ schema rows are of few. up (length rows) are.few ∙ sym (length-with_row rows key row are.rising of))

pub Changes-deleted : (inst : Instance) (key : Key) (row : Row) (old new : View) (made : Move) → dropped old ≡ old → Steps inst.root Down old new made → Changes count inst (call.Changed (change.Delete key row)) old new made
Changes-deleted inst key row old new made clean steps = Changes-moved inst (change.Delete key row) Down old new made clean steps
    (λ schema rows are of few. let less = length-without_row rows key row are.rising of in omega (arith, less))

-- as many rows: all stays
pub Changes-updated : (inst : Instance) (from to : Key) (row next : Row) (old : View) → dropped old ≡ old → Changes count inst (call.Changed (change.Update from row to next)) old old move.Done
Changes-updated inst from to row next old clean = record {
  given = clean;
  asks = tt;
  broken = tt;
  ends = tt;
  answers = λ P part rule db stands buckets before.
      changed_after inst rule db buckets (change.Update from row to next) (stored old P) (length (rows_at db inst.relation)) stands
      (subst (λ (Q : Pages). IsCount inst Q (length (rows_at db inst.relation)) buckets) (sym (stored-clean old P clean part)) (changed_before inst rule db buckets P stands before.content))
      (sym (length-moved_row (rows_at db inst.relation) from to row next (rising inst rule db stands).rising before.of.0 before.of.1));
  spends = λ ctx P part rule db stands buckets before. record { path = tt; room = tt; edits = omega (arith, edits_of-none old P clean ctx part) };
}

pub Changes-prepared : (inst : Instance) (old : View) → dropped old ≡ old → Changes count inst call.Prepare old old move.Done
Changes-prepared inst old clean = record {
  given = clean;
  asks = tt;
  broken = tt;
  ends = tt;
  answers = λ P part new rule db stands. subst (λ (r : Rule). Prepared count inst r db (stored old P) move.Done) (sym (foreign inst rule db stands))
      (subst (λ (Q : Pages). Holds count inst Q (counted_with (length (rows_at (with_rows db inst.relation []) inst.relation)) 0)) (sym (stored-clean old P clean part))
      (subst (λ (rows : Rows). Holds count inst P (counted_with (length rows) 0)) (sym (rows_at-with_rows db inst.relation [] stands.relation stands.there)) (Holds-new inst P new)));
  spends = λ ctx P part new rule db stands. record { path = tt; room = tt; edits = omega (arith, edits_of-none old P clean ctx part) };
}

-- ---- sums and searches
Looks-broken : (inst : Instance) (c : AttachCall) (old : View) (page : List ℕ) → ((P : Pages) → NotNew count inst c P) → ((P : Pages) → Spends count inst c old P old (move.Broken inst.root))
    → dropped old ≡ old → page_of old inst.root ≡ Some page → count_in page ≡ None → Looks count inst c old old (move.Broken inst.root)
Looks-broken inst c old page other spends clean held none = record {
  same = refl;
  reads = tt;
  asks = ap is_some held;
  broken = (λ i. eq-eqb inst.root inst.root refl i && has_no_count (given_at-page old inst.root page clean held i)) ∙ ap is_none none;
  ends = tt;
  answers = λ P part. other P;
  spends = λ P part. spends P;
}

pub Looks-sums_broken : (inst : Instance) (old : View) (page : List ℕ) → dropped old ≡ old → page_of old inst.root ≡ Some page → count_in page ≡ None → Looks count inst call.Sums old old (move.Broken inst.root)
Looks-sums_broken inst old page clean held none = Looks-broken inst call.Sums old page (λ P. tt) (λ P formed. tt) clean held none

pub Looks-seek_broken : (inst : Instance) (query : List Value) (old : View) (page : List ℕ) → dropped old ≡ old → page_of old inst.root ≡ Some page → count_in page ≡ None → Looks count inst (call.Seek query) old old (move.Broken inst.root)
Looks-seek_broken inst query old page clean held none = Looks-broken inst (call.Seek query) old page (λ P. tt) (λ P formed. tt) clean held none

pub Looks-sums : (inst : Instance) (old : View) (page : List ℕ) (rows : ℕ) → dropped old ≡ old → page_of old inst.root ≡ Some page → count_in page ≡ Some rows → Looks count inst call.Sums old old (move.Sums (pos rows ∷ []))
Looks-sums inst old page rows clean held is = record {
  same = refl;
  reads = tt;
  asks = tt;
  broken = tt;
  ends = tt;
  answers = λ P part content holds.
      let formed = IsFormed-held inst P content holds in
      let same : formed.rows ≡ rows = same_Some formed.rows rows (sym formed.there ∙ ap count_in (given-page old P inst.root page clean part held) ∙ is) in
      ap move.Sums (ap (λ n. pos n ∷ []) (sym same) ∙ ap (λ (c : Content). c.sums) (sym formed.is));
  spends = λ P part formed. tt;
}

-- of a change that is one of these
pub Changes-inserted_as : (inst : Instance) (c : Change) (key : Key) (row : Row) (old new : View) (made : Move) → dropped old ≡ old → c ≡ change.Insert key row → Steps inst.root Up old new made → Changes count inst (call.Changed c) old new made
Changes-inserted_as inst c key row old new made clean is steps = subst (λ (ch : Change). Changes count inst (call.Changed ch) old new made) (sym is) (Changes-inserted inst key row old new made clean steps)

pub Changes-deleted_as : (inst : Instance) (c : Change) (key : Key) (row : Row) (old new : View) (made : Move) → dropped old ≡ old → c ≡ change.Delete key row → Steps inst.root Down old new made → Changes count inst (call.Changed c) old new made
Changes-deleted_as inst c key row old new made clean is steps = subst (λ (ch : Change). Changes count inst (call.Changed ch) old new made) (sym is) (Changes-deleted inst key row old new made clean steps)

pub Changes-updated_as : (inst : Instance) (c : Change) (from to : Key) (row next : Row) (old : View) → dropped old ≡ old → c ≡ change.Update from row to next → Changes count inst (call.Changed c) old old move.Done
Changes-updated_as inst c from to row next old clean is = subst (λ (ch : Change). Changes count inst (call.Changed ch) old old move.Done) (sym is) (Changes-updated inst from to row next old clean)
