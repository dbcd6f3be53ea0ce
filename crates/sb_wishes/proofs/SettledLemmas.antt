-- What comes of an edit, by what the storage method answered.
use Rattle.std.proofs.Common.{◌≡◌, ℕ, ◌<◌, ◌^◌, ◌-◌, ◌+◌, ◌⊎◌, inl, inr, Bool, true, false, cond, ◌&&◌, ◌||◌, ◌==◌, List, [], ◌∷◌, ◌++◌, map, All, Option, Some, None, is_none, IfSome, refl, sym, ap, subst, ◌∙◌, append-nil, nat_lt}
use Rattle.std.specs.List.{list_any}
use Rattle.std.specs.Int.{to_be_bytes, w64}
use Rattle.std.specs.Str.{bytes_eq}
use Rattle.std.proofs.lemmas.Bool.{and_parts, ltb-true, or_parts}
use Rattle.std.proofs.lemmas.Option.{same_Some}
use Rattle.std.proofs.lemmas.List.Elements.{All-nil, All-cons}
use Rattle.sb_value.specs.declared.schema.Column.{Column}
use Rattle.sb_value.specs.Code.{ordered_code}
use Rattle.sb_value.specs.Equal.{bytes_same}
use Rattle.sb_value.specs.Fits.{Fits}
use Rattle.sb_value.proofs.Truths.{is_none-none}
use Rattle.sb_rule.specs.declared.change.Change.{Change}
use Rattle.sb_rule.specs.declared.change.Change.TheVariants as change
use Rattle.sb_rule.specs.declared.rule.Rule.{Rule}
use Rattle.sb_relation.specs.Db.{Name, Key, Row, Rows, Relation, row_at, with_row, without_row, values_in, key_of, tree}
use Rattle.sb_relation.specs.Keys.{Keying, Picked, Coded, Counted, NewKeys, AnyOf, Just, Taken, NoGreater, keying_of, new_keys, is_free, is_record_key, greatest}
use Rattle.sb_relation.specs.Lawful.{IsRow, is_long_code, is_long_for, is_long_row, is_too_long}
use Rattle.sb_fold.specs.declared.refusal.Refusal.{Refusal}
use Rattle.sb_fold.specs.declared.refusal.Refusal.TheVariants.{TooLong, Duplicate, Range}
use Rattle.sb_fold.specs.Outcome.{Going, Work, made, refuse, refuse_if, with_picks, Leads, ◌>>=◌}
use Rattle.sb_fold.specs.Wishes.{Wish, Edit, Adds, Takes, Turns, edit_of, is_long_edit, change_of, take_key, wished}
use Rattle.sb_fold.proofs.LeadsLemmas.{leads_next, leads_pick}
use Rattle.sb_ctx.specs.declared.instance.Instance.{Instance}
use Rattle.sb_ctx.specs.declared.calls.MethodCall.TheVariants as call
use Rattle.sb_ctx.specs.Method.{code_of}
use Rattle.sb_drive.specs.Slots.{Slots}
use Rattle.sb_drive.specs.Spaces.{LeadsWithin, Wanted}
use Rattle.sb_drive.proofs.SpacesLemmas.{GoesOn, LeadsWithin-on, LeadsWithin-zero}
use Rattle.sb_registry.specs.Boxes.{Meanings}
use Rattle.sb_registry.specs.Live.{MayTake}
use Rattle.sb_standing.specs.Placing.{Placing}
use Rattle.sb_standing.specs.Placing.TheVariants as placing
use Rattle.sb_standing.specs.Live.{HasRows, LeavesRows}
use Rattle.sb_standing.specs.Placings.{IsGone, IsPlaced, IsReplaced, OfKey, has_key, has_new}
use Rattle.sb_catalog.specs.declared.descriptor.Attached.{Attached}
use Rattle.sb_wishes.specs.declared.settling.Outcome.{Outcome}
use Rattle.sb_wishes.specs.declared.settling.Outcome.TheVariants.{Made, Refused}
use Rattle.sb_wishes.specs.Edits.{added, settled, taken, turned}
use Rattle.sb_ctx.specs.Method.{call_of}
use Rattle.sb_wishes.specs.Outcomes.{Comes, Meets, Refuses}
use Rattle.sb_wishes.specs.Wished.{HasCounts, IsTableOf, is_long_in}
use Rattle.sb_wishes.proofs.CountsLemmas.{counts_free}

-- ---- the instance and its relation
any_of : {A : Type 0} (f : A → Rule) (p : Rule → Bool) (items : List A) → list_any (λ a. p (f a)) items ≡ list_any p (map f items)
any_of f p [] = refl
any_of f p (x ∷ items) = ap (λ (b : Bool). p (f x) || b) (any_of f p items)

pub long-same : (inst : Instance) (rules : List Attached) (r : Relation) (row : Row) → IsTableOf inst rules r → is_long_in inst rules row ≡ is_too_long r row
long-same inst rules r row t =
    let schema = sym t.schema in
    let p : Rule → Bool = is_long_for inst.schema row in
    let same : list_any (λ a. is_long_for inst.schema row a.rule) rules ≡ list_any (λ a. is_long_for inst.schema row a.rule) r.attachments =
    any_of (λ a. a.rule) p rules ∙ ap (list_any p) t.attached ∙ sym (any_of (λ a. a.rule) p r.attachments) in
    ap (λ (b : Bool). is_long_row inst.schema row || (inst.code == tree && is_long_code inst.schema inst.key row) || b) same
    ∙ (λ i. is_long_row (schema i) row || ((sym t.method i) == tree && is_long_code (schema i) (sym t.key i) row) || list_any (λ a. is_long_for (schema i) row a.rule) r.attachments)

pub keys-same : (inst : Instance) (rules : List Attached) (r : Relation) (own : Option Key) (row : Row) → IsTableOf inst rules r
    → new_keys (keying_of inst.code) r.rows own (code_of inst row) ≡ new_keys (keying_of r.method) r.rows own (key_of r row)
keys-same inst rules r own row t = λ i. new_keys (keying_of (sym t.method i)) r.rows own (ordered_code (values_in (sym t.schema i) row (sym t.key i)))

-- what isn't too long may be taken
coded_tree : (b c : Bool) → cond b Coded (cond c Counted Picked) ≡ Coded → b ≡ true
coded_tree true c e = refl
coded_tree false true e = absurd (cc)
coded_tree false false e = absurd (cc)

pub MayTake-short : (inst : Instance) (rules : List Attached) (row : Row) → is_long_in inst rules row ≡ false → IsRow inst.schema row → MayTake inst row
MayTake-short inst rules row short is =
    let parts = or_parts (is_long_row inst.schema row || (inst.code == tree && is_long_code inst.schema inst.key row)) (list_any (λ a. is_long_for inst.schema row a.rule) rules) short in
    let code = (or_parts (is_long_row inst.schema row) (inst.code == tree && is_long_code inst.schema inst.key row) parts.0).1 in
    record {
      is_row = is;
      code = λ coded. ap (λ (b : Bool). b && is_long_code inst.schema inst.key row) (sym (coded_tree (inst.code == 2) (inst.code == 3) coded)) ∙ code;
    }

none_long : (p : Attached → Bool) (rules : List Attached) → list_any p rules ≡ false → All (λ a. p a ≡ false) rules
none_long p [] e = All-nil (λ a. p a ≡ false)
none_long p (a ∷ rules) e =
    let parts = or_parts (p a) (list_any p rules) e in
    All-cons (λ x. p x ≡ false) a rules parts.0 (none_long p rules parts.1)

pub none_long-for : (inst : Instance) (rules : List Attached) (row : Row) → is_long_in inst rules row ≡ false → All (λ a. is_long_for inst.schema row a.rule ≡ false) rules
none_long-for inst rules row short =
    none_long (λ a. is_long_for inst.schema row a.rule) rules
    (or_parts (is_long_row inst.schema row || (inst.code == tree && is_long_code inst.schema inst.key row)) (list_any (λ a. is_long_for inst.schema row a.rule) rules) short).1

-- ---- the key
is_free-none : (rows : Rows) (own : Option Key) (key : Key) → is_free rows own key ≡ true → (own ≡ Some key) ⊎ (row_at rows key ≡ None)
is_free-none rows None key is = inr (is_none-none (row_at rows key) is)
is_free-none rows (Some own) key is = by (bytes_eq own key) refl is
  where
    by : (b : Bool) → bytes_eq own key ≡ b → b || is_none (row_at rows key) ≡ true → (Some own ≡ Some key) ⊎ (row_at rows key ≡ None)
    by true e is = inl (ap (λ (k : Key). Some k) ((bytes_same own key).0 e))
    by false e is = inr (is_none-none (row_at rows key) is)

-- a key that a row got is its own, or no row has it
pub free_placed : (keying : Keying) (rows : Rows) (own : Option Key) (code key : Key) (LeavesWith : Key → Type 0) (Same : Type 0)
    → (keying ≡ Counted → greatest rows < 2 ^ 64 - 1 → row_at rows (to_be_bytes w64 (greatest rows + 1)) ≡ None)
    → IsPlaced (new_keys keying rows own code) (placing.Key key) LeavesWith Same → (own ≡ Some key) ⊎ (row_at rows key ≡ None)
free_placed Picked rows own code key LeavesWith Same counts is =
    is_free-none rows own key (and_parts (is_record_key key) (is_free rows own key) is.0).1
free_placed Coded rows own code key LeavesWith Same counts is = by (is_free rows own code) refl is
  where
    by : (b : Bool) → is_free rows own code ≡ b → IsPlaced (cond b (Just code) Taken) (placing.Key key) LeavesWith Same → (own ≡ Some key) ⊎ (row_at rows key ≡ None)
    by true e is = subst (λ (k : Key). (own ≡ Some k) ⊎ (row_at rows k ≡ None)) (sym is.0) (is_free-none rows own code e)
    by false e is = absurd is
free_placed Counted rows (Some own) code key LeavesWith Same counts is = inl (ap (λ (k : Key). Some k) (sym is.0))
free_placed Counted rows None code key LeavesWith Same counts is = by (nat_lt (greatest rows) (2 ^ 64 - 1)) refl is
  where
    by : (b : Bool) → nat_lt (greatest rows) (2 ^ 64 - 1) ≡ b → IsPlaced (cond b (Just (to_be_bytes w64 (greatest rows + 1))) NoGreater) (placing.Key key) LeavesWith Same → (◌≡◌ {A = Option Key} None (Some key)) ⊎ (row_at rows key ≡ None)
    by true e is = inr (ap (row_at rows) is.0 ∙ counts refl (ltb-true (greatest rows) (2 ^ 64 - 1) e))
    by false e is = absurd is

-- ---- work
abbrev pub GivesChange : Work Change → Change → Type 0
GivesChange work c = (picks : List Key) × ((g : Going) → Leads work g picks (made c) (record g { used = g.used ++ picks }))

abbrev pub StopsWork : Work Change → Refusal → Type 0
StopsWork work e = (g : Going) → Leads work g [] (refuse e) g

pub settled-short : (name : Name) (r : Relation) (edit : Edit) → is_long_edit r edit ≡ false → settled name r edit ≡ change_of name r edit
settled-short name r edit short = ap (λ (b : Bool). refuse_if b (TooLong name) >>= λ _. change_of name r edit) short

settled-long : (name : Name) (r : Relation) (edit : Edit) → is_long_edit r edit ≡ true → settled name r edit ≡ refuse (TooLong name)
settled-long name r edit long = ap (λ (b : Bool). refuse_if b (TooLong name) >>= λ _. change_of name r edit) long

pub stops_by : (work : Work Change) (e : Refusal) → work ≡ refuse e → StopsWork work e
stops_by work e is g = record { leads = λ more. ap (λ (w : Work Change). w (with_picks g more)) is }

-- the work of a row that wants a key, by what became of it
abbrev pub Ends : Name → Work Change → (Key → Change) → (Key → Type 0) → Type 0 → Placing → Type 0
Ends name work mk LeavesWith Same (placing.Key key) = GivesChange work (mk key) × LeavesWith key
Ends name work mk LeavesWith Same placing.Duplicate = StopsWork work (Duplicate name) × Same
Ends name work mk LeavesWith Same placing.Range = StopsWork work (Range name) × Same

abbrev pub keyed : Name → NewKeys → (Key → Change) → Work Change
keyed name keys mk = take_key name keys >>= λ key. made (mk key)

pub ends : (name : Name) (keys : NewKeys) (mk : Key → Change) (placed : Placing) (LeavesWith : Key → Type 0) (Same : Type 0) → IsPlaced keys placed LeavesWith Same → Ends name (keyed name keys mk) mk LeavesWith Same placed
ends name (AnyOf may) mk (placing.Key key) LeavesWith Same is = ((key ∷ [], λ g. leads_next (λ k. made (mk k)) (leads_pick name may key g is.0)), is.1)
ends name (Just given) mk (placing.Key key) LeavesWith Same is =
    (([], λ g. record { leads = λ more. λ i. made (mk (sym is.0 i)) (record (with_picks g more) { used = sym (append-nil g.used) i }) }), is.1)
ends name Taken mk placing.Duplicate LeavesWith Same is = (λ g. record { leads = λ more. refl }, is)
ends name NoGreater mk placing.Range LeavesWith Same is = (λ g. record { leads = λ more. refl }, is)
ends name keys mk placed LeavesWith Same is = absurd is

-- ---- what comes of it
module _ {S : Type 0} (Has : Wanted → Slots → S → Type 0) (Ways : ℕ → S → S → Type 0) (m : Meanings) (inst : Instance) (want : Wanted) (s : Slots) (old new : S) where
  -- the relation's rows stand, and the work is refused so
  pub Comes-refused : (r : Relation) (has : HasRows m s inst r.rows) (work : Work Change) (e : Refusal) → work ≡ refuse e → Has want s new → Ways 0 old new → Refuses Has Ways m inst want s old new r work e
  Comes-refused r has work e is there cost = record { refused = stops_by work e is; leaves = record { slots = s; has = there; others = λ o other. refl; own = has }; cost = cost }

  pub Comes-long : (rules : List Attached) (r : Relation) (has : HasRows m s inst r.rows) (edit : Edit) (row : Row) → IsTableOf inst rules r → is_long_edit r edit ≡ is_too_long r row → is_long_in inst rules row ≡ true → Has want s new → Ways 0 old new
      → Refuses Has Ways m inst want s old new r (settled inst.relation r edit) (TooLong inst.relation)
  Comes-long rules r has edit row t is long there cost =
      Comes-refused r has (settled inst.relation r edit) (TooLong inst.relation) (settled-long inst.relation r edit (is ∙ sym (long-same inst rules r row t) ∙ long)) there cost

  counted_free : (r : Relation) → HasCounts r → keying_of r.method ≡ Counted → greatest r.rows < 2 ^ 64 - 1 → row_at r.rows (to_be_bytes w64 (greatest r.rows + 1)) ≡ None
  counted_free r counted is small = counts_free r.rows (greatest r.rows) small (counted is)

  -- the pages hold the rows with this one, or as they were
  abbrev WithRow : Relation → Row → Key → Type 0
  WithRow r row key = LeavesRows Has m inst want s new (with_row r.rows key row)

  abbrev Turned : Relation → Key → Row → Key → Type 0
  Turned r from row to = LeavesRows Has m inst want s new (with_row (without_row r.rows from) to row)

  abbrev Same : Relation → Type 0
  Same r = LeavesRows Has m inst want s new r.rows

  abbrev keys_at : Relation → Option Key → Row → NewKeys
  keys_at r own row = new_keys (keying_of r.method) r.rows own (key_of r row)

  -- ---- a row was added
  added_by : (r : Relation) (has : HasRows m s inst r.rows) (row : Row) (placed : Placing) → is_too_long r row ≡ false → IsRow r.schema row → OfKey placed (λ key. is_record_key key ≡ true)
      → IsPlaced (keys_at r None row) placed (WithRow r row) (Same r) → LeadsWithin Ways (cond (has_key placed) (has.live.box.cost (call.Insert row) r.rows) 0) old new
      → Comes Has Ways m inst want s old new r has (settled inst.relation r (Adds row)) (added inst.relation row placed)
  added_by r has row (placing.Key key) short is is_key here cost =
      let end = ends inst.relation (keys_at r None row) (λ k. change.Insert k row) (placing.Key key) (WithRow r row) (Same r) here in
      record {
        picks = end.0.0;
        wished = λ g. subst (λ (w : Work Change). Leads w g end.0.0 (made (change.Insert key row)) (record g { used = g.used ++ end.0.0 })) (sym (settled-short inst.relation r (Adds row) short)) (end.0.1 g);
        suits = λ counted. record { of = new_free (free_placed (keying_of r.method) r.rows None (key_of r row) key (WithRow r row) (Same r) (counted_free r counted) here); keys = is_key; new = (is, short) };
        leaves = end.1;
        cost = cost;
      }
    where
      new_free : (◌≡◌ {A = Option Key} None (Some key)) ⊎ (row_at r.rows key ≡ None) → row_at r.rows key ≡ None
      new_free (inl e) = absurd (cc)
      new_free (inr none) = none
  added_by r has row placing.Duplicate short is is_key here cost =
      let end = ends inst.relation (keys_at r None row) (λ k. change.Insert k row) placing.Duplicate (WithRow r row) (Same r) here in
      record { refused = λ g. subst (λ (w : Work Change). Leads w g [] (refuse (Duplicate inst.relation)) g) (sym (settled-short inst.relation r (Adds row) short)) (end.0 g); leaves = end.1; cost = LeadsWithin-zero Ways 0 old new refl cost }
  added_by r has row placing.Range short is is_key here cost =
      let end = ends inst.relation (keys_at r None row) (λ k. change.Insert k row) placing.Range (WithRow r row) (Same r) here in
      record { refused = λ g. subst (λ (w : Work Change). Leads w g [] (refuse (Range inst.relation)) g) (sym (settled-short inst.relation r (Adds row) short)) (end.0 g); leaves = end.1; cost = LeadsWithin-zero Ways 0 old new refl cost }

  pub Comes-added : (rules : List Attached) (r : Relation) (has : HasRows m s inst r.rows) (row : Row) (placed : Placing) → IsTableOf inst rules r → is_long_in inst rules row ≡ false → IsRow inst.schema row
      → OfKey placed (λ key. is_record_key key ≡ true)
      → IsPlaced (new_keys (keying_of inst.code) r.rows None (code_of inst row)) placed (λ key. LeavesRows Has m inst want s new (with_row r.rows key row)) (LeavesRows Has m inst want s new r.rows)
      → LeadsWithin Ways (cond (has_key placed) (has.live.box.cost (call.Insert row) r.rows) 0) old new
      → Comes Has Ways m inst want s old new r has (settled inst.relation r (Adds row)) (added inst.relation row placed)
  Comes-added rules r has row placed t short is is_key here cost =
      added_by r has row placed (sym (long-same inst rules r row t) ∙ short) (subst (λ (c : List Column). IsRow c row) (sym t.schema) is) is_key
      (subst (λ (k : NewKeys). IsPlaced k placed (WithRow r row) (Same r)) (keys-same inst rules r None row t) here) cost

  -- ---- a row was taken away
  pub Comes-taken : (r : Relation) (has : HasRows m s inst r.rows) (key : Key) (row : Row) (gone : Bool) → row_at r.rows key ≡ Some row → is_record_key key ≡ true
      → IsGone (row_at r.rows key) gone (LeavesRows Has m inst want s new (without_row r.rows key)) (LeavesRows Has m inst want s new r.rows)
      → LeadsWithin Ways (cond gone (has.live.box.cost (call.Delete key) r.rows) 0) old new
      → Comes Has Ways m inst want s old new r has (settled inst.relation r (Takes key row)) (taken inst.relation key row gone)
  Comes-taken r has key row gone there is_key is cost =
      by gone (subst (λ (o : Option Row). IsGone o gone (LeavesRows Has m inst want s new (without_row r.rows key)) (Same r)) there is) cost
    where
      by : (gone : Bool) → IsGone (Some row) gone (LeavesRows Has m inst want s new (without_row r.rows key)) (Same r)
          → LeadsWithin Ways (cond gone (has.live.box.cost (call.Delete key) r.rows) 0) old new
          → Comes Has Ways m inst want s old new r has (settled inst.relation r (Takes key row)) (taken inst.relation key row gone)
      by true is cost = record {
        picks = [];
        wished = λ g. record { leads = λ more. λ i. made (change.Delete key row) (record (with_picks g more) { used = sym (append-nil g.used) i }) };
        suits = λ counted. record { of = there; keys = is_key; new = tt };
        leaves = is;
        cost = cost;
      }
      by false is cost = absurd is

  -- ---- a row was turned into another
  turned_by : (r : Relation) (has : HasRows m s inst r.rows) (from : Key) (row after : Row) (placed : Placing) → row_at r.rows from ≡ Some row → is_record_key from ≡ true
      → is_too_long r after ≡ false → IsRow r.schema after → OfKey placed (λ key. is_record_key key ≡ true)
      → IsPlaced (keys_at r (Some from) after) placed (Turned r from after) (Same r) → LeadsWithin Ways (cond (has_key placed) (has.live.box.cost (call.Update from after) r.rows) 0) old new
      → Comes Has Ways m inst want s old new r has (settled inst.relation r (Turns from row after)) (turned inst.relation from row after (Some placed))
  turned_by r has from row after (placing.Key to) there from_key short is is_key here cost =
      let end = ends inst.relation (keys_at r (Some from) after) (λ k. change.Update from row k after) (placing.Key to) (Turned r from after) (Same r) here in
      record {
        picks = end.0.0;
        wished = λ g. subst (λ (w : Work Change). Leads w g end.0.0 (made (change.Update from row to after)) (record g { used = g.used ++ end.0.0 })) (sym (settled-short inst.relation r (Turns from row after) short)) (end.0.1 g);
        suits = λ counted. record {
          of = (there, new_free (free_placed (keying_of r.method) r.rows (Some from) (key_of r after) to (Turned r from after) (Same r) (counted_free r counted) here));
          keys = (from_key, is_key);
          new = (is, short);
        };
        leaves = end.1;
        cost = cost;
      }
    where
      new_free : (◌≡◌ {A = Option Key} (Some from) (Some to)) ⊎ (row_at r.rows to ≡ None) → (to ≡ from → ⊥) → row_at r.rows to ≡ None
      new_free (inl e) other = absurd (other (sym (same_Some from to e)))
      new_free (inr none) other = none
  turned_by r has from row after placing.Duplicate there from_key short is is_key here cost =
      let end = ends inst.relation (keys_at r (Some from) after) (λ k. change.Update from row k after) placing.Duplicate (Turned r from after) (Same r) here in
      record { refused = λ g. subst (λ (w : Work Change). Leads w g [] (refuse (Duplicate inst.relation)) g) (sym (settled-short inst.relation r (Turns from row after) short)) (end.0 g); leaves = end.1; cost = LeadsWithin-zero Ways 0 old new refl cost }
  turned_by r has from row after placing.Range there from_key short is is_key here cost =
      let end = ends inst.relation (keys_at r (Some from) after) (λ k. change.Update from row k after) placing.Range (Turned r from after) (Same r) here in
      record { refused = λ g. subst (λ (w : Work Change). Leads w g [] (refuse (Range inst.relation)) g) (sym (settled-short inst.relation r (Turns from row after) short)) (end.0 g); leaves = end.1; cost = LeadsWithin-zero Ways 0 old new refl cost }

  pub Comes-turned : (rules : List Attached) (r : Relation) (has : HasRows m s inst r.rows) (from : Key) (row after : Row) (placed : Option Placing) → IsTableOf inst rules r → row_at r.rows from ≡ Some row
      → is_record_key from ≡ true → is_long_in inst rules after ≡ false → IsRow inst.schema after → IfSome placed (λ p. OfKey p (λ key. is_record_key key ≡ true))
      → IsReplaced (row_at r.rows from) (new_keys (keying_of inst.code) r.rows (Some from) (code_of inst after)) placed (λ to. LeavesRows Has m inst want s new (with_row (without_row r.rows from) to after)) (LeavesRows Has m inst want s new r.rows)
      → LeadsWithin Ways (cond (has_new placed) (has.live.box.cost (call.Update from after) r.rows) 0) old new
      → Comes Has Ways m inst want s old new r has (settled inst.relation r (Turns from row after)) (turned inst.relation from row after placed)
  Comes-turned rules r has from row after placed t there from_key short is is_key here cost =
      by placed is_key
      (subst (λ (o : Option Row). IsReplaced o (keys_at r (Some from) after) placed (Turned r from after) (Same r)) there
      (subst (λ (k : NewKeys). IsReplaced (row_at r.rows from) k placed (Turned r from after) (Same r)) (keys-same inst rules r (Some from) after t) here)) cost
    where
      by : (placed : Option Placing) → IfSome placed (λ p. OfKey p (λ key. is_record_key key ≡ true)) → IsReplaced (Some row) (keys_at r (Some from) after) placed (Turned r from after) (Same r)
          → LeadsWithin Ways (cond (has_new placed) (has.live.box.cost (call.Update from after) r.rows) 0) old new
          → Comes Has Ways m inst want s old new r has (settled inst.relation r (Turns from row after)) (turned inst.relation from row after placed)
      by (Some p) is_key here cost =
          turned_by r has from row after p there from_key (sym (long-same inst rules r after t) ∙ short) (subst (λ (c : List Column). IsRow c after) (sym t.schema) is) is_key here cost
      by None is_key here cost = absurd here

  -- ---- the same where the call was made with copies
  pub Comes-add : (rules : List Attached) (r : Relation) (has : HasRows m s inst r.rows) (name : Name) (row copy : Row) (placed : Placing) (out : Outcome) → name ≡ inst.relation → copy ≡ row → out ≡ added name row placed
      → IsTableOf inst rules r → is_long_in inst rules row ≡ false → IsRow inst.schema row → OfKey placed (λ key. is_record_key key ≡ true)
      → IsPlaced (new_keys (keying_of inst.code) r.rows None (code_of inst copy)) placed (λ key. LeavesRows Has m inst want s new (with_row r.rows key copy)) (LeavesRows Has m inst want s new r.rows)
      → LeadsWithin Ways (cond (has_key placed) (has.live.box.cost (call.Insert copy) r.rows) 0) old new
      → Comes Has Ways m inst want s old new r has (settled inst.relation r (Adds row)) out
  Comes-add rules r has name row copy placed out named copied is_out t short is is_key here cost =
      subst (λ (o : Outcome). Comes Has Ways m inst want s old new r has (settled inst.relation r (Adds row)) o) (sym (is_out ∙ ap (λ (n : Name). added n row placed) named))
      (Comes-added rules r has row placed t short is is_key
      (subst (λ (x : Row). IsPlaced (new_keys (keying_of inst.code) r.rows None (code_of inst x)) placed (λ key. LeavesRows Has m inst want s new (with_row r.rows key x)) (Same r)) copied here)
      (subst (λ (x : Row). LeadsWithin Ways (cond (has_key placed) (has.live.box.cost (call.Insert x) r.rows) 0) old new) copied cost))

  pub Comes-take : (r : Relation) (has : HasRows m s inst r.rows) (name : Name) (key at : Key) (row : Row) (gone : Bool) (out : Outcome) → name ≡ inst.relation → at ≡ key → out ≡ taken name key row gone
      → row_at r.rows key ≡ Some row → is_record_key key ≡ true
      → IsGone (row_at r.rows at) gone (LeavesRows Has m inst want s new (without_row r.rows at)) (LeavesRows Has m inst want s new r.rows)
      → LeadsWithin Ways (cond gone (has.live.box.cost (call.Delete at) r.rows) 0) old new
      → Comes Has Ways m inst want s old new r has (settled inst.relation r (Takes key row)) out
  Comes-take r has name key at row gone out named copied is_out there is_key is cost =
      subst (λ (o : Outcome). Comes Has Ways m inst want s old new r has (settled inst.relation r (Takes key row)) o) (sym (is_out ∙ ap (λ (n : Name). taken n key row gone) named))
      (Comes-taken r has key row gone there is_key
      (subst (λ (k : Key). IsGone (row_at r.rows k) gone (LeavesRows Has m inst want s new (without_row r.rows k)) (Same r)) copied is)
      (subst (λ (k : Key). LeadsWithin Ways (cond gone (has.live.box.cost (call.Delete k) r.rows) 0) old new) copied cost))

  pub Comes-turn : (rules : List Attached) (r : Relation) (has : HasRows m s inst r.rows) (name : Name) (from at : Key) (row after copy : Row) (placed : Option Placing) (out : Outcome)
      → name ≡ inst.relation → at ≡ from → copy ≡ after → out ≡ turned name from row after placed → IsTableOf inst rules r → row_at r.rows from ≡ Some row
      → is_record_key from ≡ true → is_long_in inst rules after ≡ false → IsRow inst.schema after → IfSome placed (λ p. OfKey p (λ key. is_record_key key ≡ true))
      → IsReplaced (row_at r.rows at) (new_keys (keying_of inst.code) r.rows (Some at) (code_of inst copy)) placed (λ to. LeavesRows Has m inst want s new (with_row (without_row r.rows at) to copy)) (LeavesRows Has m inst want s new r.rows)
      → LeadsWithin Ways (cond (has_new placed) (has.live.box.cost (call.Update at copy) r.rows) 0) old new
      → Comes Has Ways m inst want s old new r has (settled inst.relation r (Turns from row after)) out
  Comes-turn rules r has name from at row after copy placed out named at_is copied is_out t there from_key short is is_key here cost =
      subst (λ (o : Outcome). Comes Has Ways m inst want s old new r has (settled inst.relation r (Turns from row after)) o) (sym (is_out ∙ ap (λ (n : Name). turned n from row after placed) named))
      (Comes-turned rules r has from row after placed t there from_key short is is_key
      (subst (λ (x : Row). IsReplaced (row_at r.rows from) (new_keys (keying_of inst.code) r.rows (Some from) (code_of inst x)) placed (λ to. LeavesRows Has m inst want s new (with_row (without_row r.rows from) to x)) (Same r)) copied
      (subst (λ (k : Key). IsReplaced (row_at r.rows k) (new_keys (keying_of inst.code) r.rows (Some k) (code_of inst copy)) placed (λ to. LeavesRows Has m inst want s new (with_row (without_row r.rows k) to copy)) (Same r)) at_is here))
      (subst (λ (x : Row). LeadsWithin Ways (cond (has_new placed) (has.live.box.cost (call.Update from x) r.rows) 0) old new) copied
      (subst (λ (k : Key). LeadsWithin Ways (cond (has_new placed) (has.live.box.cost (call.Update k copy) r.rows) 0) old new) at_is cost)))

  -- ---- the same of other work, and from an earlier moment
  pub Comes-later : (earlier : S) (r : Relation) (has : HasRows m s inst r.rows) (work : Work Change) (out : Outcome) → GoesOn Ways → Ways 0 earlier old
      → Comes Has Ways m inst want s old new r has work out → Comes Has Ways m inst want s earlier new r has work out
  Comes-later earlier r has work (Made c) goes_on first comes = record {
    picks = comes.picks;
    wished = comes.wished;
    suits = comes.suits;
    leaves = comes.leaves;
    cost = LeadsWithin-on Ways (has.live.box.cost (call_of c) r.rows) earlier old new goes_on first comes.cost;
  }
  Comes-later earlier r has work (Refused e) goes_on first comes = record { refused = comes.refused; leaves = comes.leaves; cost = goes_on 0 0 earlier old new first comes.cost }

  pub Comes-wished : (r : Relation) (has : HasRows m s inst r.rows) (wish : Wish) (edit : Edit) (out : Outcome) → edit_of inst.relation r wish ≡ made edit
      → Comes Has Ways m inst want s old new r has (settled inst.relation r edit) out → Comes Has Ways m inst want s old new r has (wished inst.relation r wish) out
  Comes-wished r has wish edit out is comes =
      subst (λ (w : Work Change). Comes Has Ways m inst want s old new r has w out) (sym (ap (λ (w : Work Edit). w >>= settled inst.relation r) is)) comes

  pub Comes-unwished : (r : Relation) (has : HasRows m s inst r.rows) (wish : Wish) (e : Refusal) → edit_of inst.relation r wish ≡ refuse e → Has want s new → Ways 0 old new
      → Refuses Has Ways m inst want s old new r (wished inst.relation r wish) e
  Comes-unwished r has wish e is there cost = Comes-refused r has (wished inst.relation r wish) e (ap (λ (w : Work Edit). w >>= settled inst.relation r) is) there cost

-- ---- whatever the pages hold
pub Meets-added : (inst : Instance) (rules : List Attached) (name : Name) (row : Row) (placed : Placing) → is_long_in inst rules row ≡ false → IsRow inst.schema row → OfKey placed (λ key. is_record_key key ≡ true)
    → Meets inst.schema rules (added name row placed)
Meets-added inst rules name row (placing.Key key) short is is_key = record { keys = is_key; old = tt; new = (is, none_long-for inst rules row short) }
Meets-added inst rules name row placing.Duplicate short is is_key = tt
Meets-added inst rules name row placing.Range short is is_key = tt

pub Meets-taken : (schema : List Column) (rules : List Attached) (name : Name) (key : Key) (row : Row) (gone : Bool) → is_record_key key ≡ true → Fits schema row → Meets schema rules (taken name key row gone)
Meets-taken schema rules name key row true is_key fits = record { keys = is_key; old = fits; new = tt }
Meets-taken schema rules name key row false is_key fits = tt

pub Meets-turned : (inst : Instance) (rules : List Attached) (name : Name) (from : Key) (row after : Row) (placed : Option Placing) → is_record_key from ≡ true → Fits inst.schema row
    → is_long_in inst rules after ≡ false → IsRow inst.schema after → IfSome placed (λ p. OfKey p (λ key. is_record_key key ≡ true)) → Meets inst.schema rules (turned name from row after placed)
Meets-turned inst rules name from row after (Some (placing.Key to)) from_key fits short is is_key = record { keys = (from_key, is_key); old = fits; new = (is, none_long-for inst rules after short) }
Meets-turned inst rules name from row after (Some placing.Duplicate) from_key fits short is is_key = tt
Meets-turned inst rules name from row after (Some placing.Range) from_key fits short is is_key = tt
Meets-turned inst rules name from row after None from_key fits short is is_key = tt
