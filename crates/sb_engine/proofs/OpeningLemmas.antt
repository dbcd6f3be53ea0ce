-- What opening a relation tells of those that are kept.
use Rattle.std.proofs.Common.{◌≡◌, ℕ, zero, suc, ◌<◌, Bool, true, false, true≢false, cond, ◌&&◌, List, [], ◌∷◌, ◌++◌, length, get_or, Option, Some, None, option_map, is_some, is_none, IfSome, Bor, refl, sym, ap, ◌∙◌, subst, bytes_eq, arith}
use Rattle.std.specs.Option.{option_copied}
use Rattle.sb_value.specs.declared.schema.Column.{Column}
use Rattle.sb_value.specs.Equal.{bytes_same}
use Rattle.sb_value.specs.Fits.{Fits}
use Rattle.sb_value.proofs.Truths.{is_none-none}
use Rattle.sb_pred.specs.Typing.{term_kind}
use Rattle.sb_rule.specs.declared.action.Action.{Action}
use Rattle.sb_relation.specs.Db.{Name, Key, Row, Relation, Db, relation_at, schema_at}
use Rattle.sb_relation.specs.Fits.{action_fits, action_places, first_missing, first_unnamed, relation_of}
use Rattle.sb_fold.specs.Fold.{wish_for}
use Rattle.sb_fold.specs.Wishes.{Wish, Put, Remove, Replace, Raise, is_match, pairs_of, wish_of}
use Rattle.sb_cascade.specs.declared.wish.Wish as code
use Rattle.sb_cascade.specs.Wishes as cascade
use Rattle.sb_cascade.specs.Fitting.{IsFitting, IsFittingWish, WishFits}
use Rattle.sb_cascade.proofs.Wishing.{wishes-fit}
use Rattle.sb_registry.specs.Boxes.{Meanings}
use Rattle.sb_standing.specs.Tables.{Kept, db_of, kept_at}
use Rattle.sb_standing.proofs.KeptLemmas.{itself_name, relation_at-kept, relation_at-there}
use Rattle.sb_asking.specs.OpenRelation.{OpenRelation}
use Rattle.sb_asking.specs.Opened.{IsOpen}
use Rattle.sb_wishes.specs.Wished.{MayBeWished}
use Rattle.sb_engine.specs.Working.{AreOpened, IsOpened, MayDo, MayWish, open_at}
use Rattle.sb_engine.proofs.OpenedLemmas.{open_at-all, open_at-name}

-- ---- options
pub copied_some : {X : Type 0} (o : Option (Bor X)) → is_some (option_copied o) ≡ is_some o
copied_some None = refl
copied_some (Some x) = refl

pub same_there : {A B X : Type 0} (f : A → X) (h : B → X) (o : Option A) (p : Option B) → option_map f o ≡ option_map h p → is_some o ≡ is_some p
same_there f h None None is = refl
same_there f h None (Some y) is = absurd (cc)
same_there f h (Some x) None is = absurd (cc)
same_there f h (Some x) (Some y) is = refl

both : (a b : Bool) → (a && b) ≡ true → (a ≡ true) × (b ≡ true)
both true b is = (refl, is)
both false b is = absurd (true≢false (sym is))

-- ---- the open relation of a name is kept
pub open_kept : (m : Meanings) (kept : List Kept) (opened : List OpenRelation) (name : Name) → AreOpened m kept opened → is_some (open_at opened name) ≡ true → true ≡ is_some (kept_at kept name)
open_kept m kept opened name are there = of_open (open_at opened name) refl there
  where
    of_open : (o : Option OpenRelation) → open_at opened name ≡ o → is_some o ≡ true → true ≡ is_some (kept_at kept name)
    of_open None at is = absurd (true≢false (sym is))
    of_open (Some one) at is =
        let it = open_at-all (IsOpened m kept) opened name one are at in
        sym (ap (λ (o : Option Kept). is_some o) (ap (λ (n : Name). kept_at kept n) (sym (open_at-name opened name one at)) ∙ it.at))

-- the relation that comes is the open one of its name, at the latest
pub open_pushed : (opened : List OpenRelation) (name : Name) (one : OpenRelation) → one.name ≡ name → true ≡ is_some (open_at (opened ++ one ∷ []) name)
open_pushed [] name one named = sym (ap (λ (b : Bool). is_some (cond b (Some one) None)) ((bytes_same one.name name).1 named))
open_pushed (o ∷ opened) name one named = of_test (bytes_eq o.name name) (open_pushed opened name one named)
  where
    of_test : (b : Bool) → true ≡ is_some (open_at (opened ++ one ∷ []) name) → true ≡ is_some (cond b (Some o) (open_at (opened ++ one ∷ []) name))
    of_test true rest = refl
    of_test false rest = rest

-- it is kept with its descriptor
pub opened_of : (m : Meanings) (kept : List Kept) (one : OpenRelation) (name : Name) → IsOpen m one → one.name ≡ name
    → Some one.descriptor ≡ option_map (λ (k : Kept). k.descriptor) (kept_at kept name) → IsOpened m kept one
opened_of m kept one name is named found = of_kept (kept_at kept name) refl found
  where
    of_kept : (o : Option Kept) → kept_at kept name ≡ o → Some one.descriptor ≡ option_map (λ (k : Kept). k.descriptor) o → IsOpened m kept one
    of_kept None at same = absurd (cc)
    of_kept (Some k) at same = record { is = is; one = k; at = ap (λ (n : Name). kept_at kept n) named ∙ at; same = sym (of_some same) }
      where
        of_some : Some one.descriptor ≡ Some k.descriptor → one.descriptor ≡ k.descriptor
        of_some e = cc

-- ---- actions that fit
-- what is tested of an action that fits is so
pub fits_test : (db : Db) (a : Action) (schema : List Column) → schema_at db (relation_of a) ≡ schema → IsFitting db a
    → (is_none (first_unnamed (action_places schema [] a)) && action_fits schema (term_kind [] false false) a) ≡ true
fits_test db a schema same fits =
    ap (λ (columns : List Column). is_none (first_unnamed (action_places columns [] a)) && action_fits columns (term_kind [] false false) a) (sym same)
    ∙ ap (λ (o : Option (List Column × Name)). is_none o && action_fits (schema_at db (relation_of a)) (term_kind [] false false) a) fits.named
    ∙ fits.fits

pub may_do : (opened : List OpenRelation) (a : Action) (one : OpenRelation) → open_at opened (relation_of a) ≡ Some one
    → (is_none (first_unnamed (action_places one.descriptor.schema [] a)) && action_fits one.descriptor.schema (term_kind [] false false) a) ≡ true → MayDo opened a
may_do opened a one at test =
    let parts = both (is_none (first_unnamed (action_places one.descriptor.schema [] a))) (action_fits one.descriptor.schema (term_kind [] false false) a) test in
    record { one = one; at = at; named = is_none-none (first_unnamed (action_places one.descriptor.schema [] a)) parts.0; fits = parts.1 }

-- the relation of one that fits is kept
pub fitting_kept : (kept : List Kept) (name : Name) → first_missing (db_of kept) (name ∷ []) ≡ None → is_some (kept_at kept name) ≡ true
fitting_kept kept name there = of_kept (kept_at kept name) (ap (λ (o : Option Relation). cond (is_none o) (Some name) None) (sym (relation_at-kept kept name)) ∙ there)
  where
    of_kept : (o : Option Kept) → cond (is_none (option_map (λ (k : Kept). k.relation) o)) (Some name) None ≡ None → is_some o ≡ true
    of_kept None is = absurd (cc)
    of_kept (Some k) is = refl

-- ---- what an action wishes fits
-- a database of one relation with these columns
abbrev alone : OpenRelation → Name → List Column → Kept
alone one name schema = record { name = name; descriptor = one.descriptor; relation = record { method = 0; schema = schema; key = []; rows = []; attachments = [] } }

alone_there : (one : OpenRelation) (name : Name) (schema : List Column) → relation_at (db_of (alone one name schema ∷ [])) name ≡ Some (alone one name schema).relation
alone_there one name schema = relation_at-there (alone one name schema ∷ []) name (alone one name schema) (ap (λ (b : Bool). cond b (Some (alone one name schema)) None) (itself_name name))

as_wished : (schema : List Column) (wish : Wish) → WishFits schema wish → MayBeWished schema wish
as_wished schema (Put row) fits = fits
as_wished schema (Remove key) fits = tt
as_wished schema (Replace key row) fits = fits
as_wished schema (Raise key column by) fits = fits

wished_of : (schema : List Column) (w : Option Wish) (db : Db) (name : Name) → schema_at db name ≡ schema → IfSome w (IsFittingWish db name) → IfSome w (MayBeWished schema)
wished_of schema None db name same is = tt
wished_of schema (Some wish) db name same is = as_wished schema wish (subst (λ (columns : List Column). WishFits columns wish) same is.fits)

where_match : (schema : List Column) (a : Action) (key : Key) (row : Row) → IfSome (wish_of schema a key row) (MayBeWished schema) → IfSome (wish_for schema a key (Some row)) (MayBeWished schema)
where_match schema a key row is = of_test (is_match schema (pairs_of a) row)
  where
    of_test : (b : Bool) → IfSome (cond b (wish_of schema a key row) None) (MayBeWished schema)
    of_test true = is
    of_test false = tt

-- of a row that fits
pub wishes_fit : (opened : List OpenRelation) (a : Action) (key : Key) (row : Row) (may : MayDo opened a) → Fits may.one.descriptor.schema row
    → IfSome (wish_for may.one.descriptor.schema a key (Some row)) (MayBeWished may.one.descriptor.schema)
wishes_fit opened a key row may fits =
    let schema = may.one.descriptor.schema in
    let name = relation_of a in
    let db : Db = db_of (alone may.one name schema ∷ []) in
    let there = alone_there may.one name schema in
    let same : schema_at db name ≡ schema = ap (λ (o : Option Relation). elim o as (λ _. List Column) [ None ↦ [] | Some r ↦ r.schema ]) there in
    let fitting : IsFitting db a = record {
      there = ap (λ (o : Option Relation). cond (is_none o) (Some name) None) there;
      named = ap (λ (columns : List Column). first_unnamed (action_places columns [] a)) same ∙ may.named;
      fits = ap (λ (columns : List Column). action_fits columns (term_kind [] false false) a) same ∙ may.fits;
    } in
    where_match schema a key row (wished_of schema (wish_of schema a key row) db name same
    (subst (λ (columns : List Column). IfSome (wish_of columns a key row) (IsFittingWish db name)) same (wishes-fit db a key row fitting (subst (λ (columns : List Column). Fits columns row) (sym same) fits))))

-- so it may be wished
pub may_wish : (opened : List OpenRelation) (name : Name) (one : OpenRelation) (x : Option code.Wish) (w : Option Wish) → open_at opened name ≡ Some one → option_map cascade.wish_of x ≡ w
    → IfSome w (MayBeWished one.descriptor.schema) → IfSome x (λ wish. MayWish opened name (cascade.wish_of wish))
may_wish opened name one x w at is may = of_wish x (subst (λ (o : Option Wish). IfSome o (MayBeWished one.descriptor.schema)) (sym is) may)
  where
    of_wish : (x : Option code.Wish) → IfSome (option_map cascade.wish_of x) (MayBeWished one.descriptor.schema) → IfSome x (λ wish. MayWish opened name (cascade.wish_of wish))
    of_wish None may = tt
    of_wish (Some wish) may = record { one = one; at = at; fits = may }

-- ---- one item of a list
pub get_item : {A : Type 0} (xs : List A) (i : ℕ) (d x : A) → i < length xs → x ≡ get_or xs i x → get_or xs i d ≡ x
get_item [] i d x lt is = absurd (omega arith)
get_item (y ∷ xs) zero d x lt is = sym is
get_item (y ∷ xs) (suc i) d x lt is = get_item xs i d x (omega arith) is
