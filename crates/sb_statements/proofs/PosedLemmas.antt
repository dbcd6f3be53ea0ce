-- A posed command that no test refuses may be carried out.
use Rattle.std.proofs.Common.{◌≡◌, ℕ, ◌||◌, ◌&&◌, Bool, true, false, cond, List, [], ◌∷◌, map, All, Option, Some, None, is_some, is_none, option_map, bytes_eq, refl, sym, ap, ◌∙◌, subst}
use Rattle.std.specs.List.{find}
use Rattle.std.specs.Option.{option_or}
use Rattle.std.specs.Ordering.{eq_by_cmp}
use Rattle.std.specs.Prelude.{not}
use Rattle.std.proofs.lemmas.List.Elements.{All-nil, All-head, All-tail}
use Rattle.std.proofs.lemmas.Map.Text.{is_eq-slice_cmp}
use Rattle.std.proofs.lemmas.Option.{same_Some}
use Rattle.std.proofs.lemmas.Bool.{or_parts}
use Rattle.sb_value.specs.declared.schema.Column.{Column}
use Rattle.sb_value.specs.Equal.{bytes_same}
use Rattle.sb_value.specs.Fits.{first_misfit}
use Rattle.sb_value.specs.Order.{bytes_cmp}
use Rattle.sb_value.proofs.Truths.{is_none-none, is_some-none}
use Rattle.sb_value.proofs.Searches.{find-none}
use Rattle.sb_rule.specs.declared.rule.Rule.{Rule}
use Rattle.sb_rule.specs.Spelling.{rule_code}
use Rattle.sb_relation.specs.Build.{main_of, with_rule}
use Rattle.sb_relation.specs.Db.{Name, Attached, Relation, Db, relation_at, schema_at}
use Rattle.sb_relation.specs.Fits.{action_places, first_unnamed, method_fits, other_relations, places_in, relation_of, rule_fits, rule_places}
use Rattle.sb_relation.specs.Foreign.{AttachRules, MethodRules}
use Rattle.sb_relation.specs.Limits.{has_large_descriptor, is_crowded, is_large_rule}
use Rattle.sb_fold.specs.Building.{rule_at}
use Rattle.sb_fold.specs.Extensions.{box_of, method_of as rules_of}
use Rattle.sb_fold.specs.Fold.{attachments_at}
use Rattle.sb_fold.specs.Outcome.{Going}
use Rattle.sb_fold.specs.Wishes.{Put, Remove, Replace}
use Rattle.sb_cascade.specs.Fitting.{IsFitting, IsFittingWish}
use Rattle.sb_plain.specs.declared.command.Command.TheVariants as command
use Rattle.sb_plain.specs.Refusing.{code_where, first_attached, first_twice, rule_twice, some_where, ties_to}
use Rattle.sb_plain.specs.State.{Codes, State, has_code, view}
use Rattle.sb_ctx.specs.Method.{Method}
use Rattle.sb_ctx.specs.Attachment.{Attachment}
use Rattle.sb_registry.specs.Boxes.{Meanings, attachment_of, method_of}
use Rattle.sb_vectors.proofs.BoxLemmas.{method_in_two, rule_in_two}
use Rattle.sb_building.specs.Working.{ArePaired, HasMainOf, extensions_of}
use Rattle.sb_statements.specs.Posed.{HasCodes, IsOfNoMirror, IsPosedRelation, IsPosedRule, IsWhere, TestedMayWork}
use Rattle.sb_building.specs.Creation.{MayCreate}
use Rattle.sb_building.specs.Removal.{MayDrop}
use Rattle.sb_building.specs.Attaching.{MayAttach}
use Rattle.sb_building.specs.Detaching.{MayDetach}
use Rattle.sb_statements.proofs.PassedLemmas.{IsPassed, found_first, has_box, no_first, none_mapped, not_some, passed, some_of}

-- ---- lists
find_all : {A : Type 0} (P : A → Type 0) (p : A → Bool) (xs : List A) (x : A) → All P xs → find p xs ≡ Some x → P x × (p x ≡ true)
find_all P p [] x all at = absurd (cc)
find_all P p (y ∷ xs) x all at = of_test (p y) refl at (λ is. find_all P p xs x (All-tail P y xs all) is)
  where
    of_test : (b : Bool) → p y ≡ b → cond b (Some y) (find p xs) ≡ Some x → (find p xs ≡ Some x → P x × (p x ≡ true)) → P x × (p x ≡ true)
    of_test true is at rest =
        let same : y ≡ x = same_Some y x at in
        (subst P same (All-head P y xs all), ap p (sym same) ∙ is)
    of_test false is at rest = rest at

-- ---- ties
-- no attachment of another relation is meant
meant_none : (is_meant : Name → Attached → Bool) (name : Name) (r : Relation) (db : Db) → first_attached is_meant ((name, r) ∷ db) ≡ None
    → (find (is_meant name) r.attachments ≡ None) × (first_attached is_meant db ≡ None)
meant_none is_meant name r db e = of_found (find (is_meant name) r.attachments) e
  where
    of_found : (o : Option Attached) → elim o as (λ _. Option (Name × Name)) [ None ↦ first_attached is_meant db | Some a ↦ Some (name, a.name) ] ≡ None
        → (o ≡ None) × (first_attached is_meant db ≡ None)
    of_found None e = (refl, e)
    of_found (Some a) e = absurd (cc)

not_itself : (name relation : Name) → (name ≡ relation → ⊥) → bytes_eq name relation ≡ false
not_itself name relation apart = of_test (bytes_eq name relation) refl
  where
    of_test : (b : Bool) → bytes_eq name relation ≡ b → b ≡ false
    of_test true is = absurd (apart ((bytes_same name relation).0 is))
    of_test false is = refl

untied : (relation : Name) (db : Db) → first_attached (λ name a. not (bytes_eq name relation) && ties_to relation a.rule) db ≡ None
    → (other : Name) → (other ≡ relation → ⊥) → All (λ a. ties_to relation a.rule ≡ false) (attachments_at db other)
untied relation [] none other apart = All-nil (λ a. ties_to relation a.rule ≡ false)
untied relation ((name, r) ∷ db) none other apart = of_test (eq_by_cmp bytes_cmp other name) refl (λ is. untied relation db is other apart)
  where
    parts : (find (λ a. not (bytes_eq name relation) && ties_to relation a.rule) r.attachments ≡ None)
        × (first_attached (λ name a. not (bytes_eq name relation) && ties_to relation a.rule) db ≡ None)
    parts = meant_none (λ name a. not (bytes_eq name relation) && ties_to relation a.rule) name r db none

    of_test : (b : Bool) → eq_by_cmp bytes_cmp other name ≡ b
        → (first_attached (λ name a. not (bytes_eq name relation) && ties_to relation a.rule) db ≡ None → All (λ a. ties_to relation a.rule ≡ false) (attachments_at db other))
        → All (λ a. ties_to relation a.rule ≡ false) (elim (cond b (Some r) (relation_at db other)) as (λ _. List Attached) [ None ↦ [] | Some r ↦ r.attachments ])
    of_test true is rest =
        let same : other ≡ name = (bytes_same other name).0 (sym (is_eq-slice_cmp other name) ∙ is) in
        let far : bytes_eq name relation ≡ false = not_itself name relation (λ e. apart (same ∙ e)) in
        find-none (λ a. ties_to relation a.rule) r.attachments
        (ap (λ (b : Bool). find (λ a. not b && ties_to relation a.rule) r.attachments) (sym far) ∙ parts.0)
    of_test false is rest = rest parts.1

-- ---- codes
coded : (codes : List ℕ) (code : ℕ) → code_where (not (has_code codes code)) code ≡ None → has_code codes code ≡ true
coded codes code e = of_test (has_code codes code) e
  where
    of_test : (b : Bool) → code_where (not b) code ≡ None → b ≡ true
    of_test true e = refl
    of_test false e = absurd (cc)

live_method : (m : Meanings) (s : State) (method : ℕ) → HasCodes m s → code_where (not (has_code s.live.methods method)) method ≡ None
    → (box : Method) × (method_of method m.methods ≡ Some box)
live_method m s method codes e =
    has_box (λ (x : Method). x.rules.code) method m.methods (ap (λ (l : List ℕ). has_code l method) (sym (ap (λ (c : Codes). c.methods) codes.live)) ∙ coded s.live.methods method e)

live_rule : (m : Meanings) (s : State) (code : ℕ) → HasCodes m s → code_where (not (has_code s.live.attachments code)) code ≡ None
    → (box : Attachment) × (attachment_of code m.attachments ≡ Some box)
live_rule m s code codes e =
    has_box (λ (x : Attachment). x.rules.code) code m.attachments (ap (λ (l : List ℕ). has_code l code) (sym (ap (λ (c : Codes). c.attachments) codes.live)) ∙ coded s.live.attachments code e)

-- a live box is the extension of its code
box_of_method : (m : Meanings) (method : ℕ) (box : Method) → method_of method m.methods ≡ Some box → rules_of (extensions_of m) method ≡ Some box.rules
box_of_method m method box live =
    method_in_two method m.methods m.spare_methods
    ∙ ap (λ (o : Option Method). option_or (option_map (λ x. x.rules) o) (option_map (λ x. x.rules) (method_of method m.spare_methods))) live

box_of_rule : (m : Meanings) (rule : Rule) (box : Attachment) → attachment_of (rule_code rule) m.attachments ≡ Some box → box_of (extensions_of m) rule ≡ Some box.rules
box_of_rule m rule box live =
    rule_in_two (rule_code rule) m.attachments m.spare_attachments
    ∙ ap (λ (o : Option Attachment). option_or (option_map (λ x. x.rules) o) (option_map (λ x. x.rules) (attachment_of (rule_code rule) m.spare_attachments))) live

-- ---- one command after another
module _ (m : Meanings) (s : State) (g : Going) (is : IsWhere m s g) where
  creates : (relation : Name) (method : ℕ) (schema : List Column) (key : List Name) → IsPosedRelation m relation method schema key
      → IsPassed (extensions_of m) s (command.Create relation method schema key) → MayCreate m (view s) relation method schema key
  creates relation method schema key posed p =
      let new = no_first (some_where (is_some (relation_at (view s) relation)) relation) (option_or (first_twice (map (λ c. c.name) schema)) (first_twice key)) p.new in
      let live = live_method m s method is.codes p.coded in
      record {
        new = is_some-none (relation_at (view s) relation) (not_some (is_some (relation_at (view s) relation)) relation new.0);
        box = live.0;
        live = live.1;
        durable = posed.outlives live.0 live.1;
        keeps = record {
          named = none_mapped (λ (place : List Column × Name). place.1) (first_unnamed (places_in schema key)) p.named;
          fits = ap (λ (o : Option MethodRules). method_fits o method schema key) (sym (box_of_method m method live.0 live.1)) ∙ p.fits;
        };
        lasting = posed.lasting;
        wide = posed.wide;
        named = posed.named;
        columns = posed.columns;
        names = posed.names;
        short = posed.short;
        small = posed.small;
      }

  drops : (relation : Name) → IsPassed (extensions_of m) s (command.Drop relation) → MayDrop (view s) g.queue relation
  drops relation p =
      let there = found_first (relation_at (view s)) relation [] p.there in
      record { relation = there.0.0; there = there.0.1; untied = untied relation (view s) p.unused; still = is.waits p.place }

  attaches : (relation name : Name) (rule : Rule) → IsPosedRule relation name rule → IsPassed (extensions_of m) s (command.Attach relation name rule)
      → MayAttach m (view s) relation name rule
  attaches relation name rule posed p =
      let there = found_first (relation_at (view s)) relation (other_relations rule) p.there in
      let new = no_first (some_where (is_some (rule_at (view s) relation name)) name) (rule_twice rule) p.new in
      let live = live_rule m s (rule_code rule) is.codes p.coded in
      let own : schema_at (view s) relation ≡ there.0.0.schema =
      ap (λ (o : Option Relation). elim o as (λ _. List Column) [ None ↦ [] | Some r ↦ r.schema ]) there.0.1 in
      let limits = or_parts (is_large_rule rule || is_crowded (view s) relation rule) (has_large_descriptor relation rule (with_rule (view s) relation name rule)) p.within in
      record {
        own = there.0.0;
        there = there.0.1;
        new = is_some-none (rule_at (view s) relation name) (not_some (is_some (rule_at (view s) relation name)) name new.0);
        box = live.0;
        live = live.1;
        stands = record {
          there = there.1;
          named = ap (λ (columns : List Column). first_unnamed (rule_places (view s) columns rule)) (sym own)
              ∙ none_mapped (λ (place : List Column × Name). place.1) (first_unnamed (rule_places (view s) (schema_at (view s) relation) rule)) p.named;
          fits = ap (λ (columns : List Column). rule_fits (Some live.0.rules) (view s) columns rule) (sym own)
              ∙ ap (λ (o : Option AttachRules). rule_fits o (view s) (schema_at (view s) relation) rule) (sym (box_of_rule m rule live.0 live.1)) ∙ p.fits;
        };
        joinless = posed.joinless;
        main = posed.main;
        single = posed.single;
        storable = posed.storable;
        named = posed.named;
        label = posed.label;
        short = posed.short;
        few = (or_parts (is_large_rule rule) (is_crowded (view s) relation rule) limits.0).1;
        small = limits.1;
      }

  detaches : (relation name : Name) → IsOfNoMirror name → IsPassed (extensions_of m) s (command.Detach relation name) → MayDetach (view s) relation name
  detaches relation name posed p =
      let one = some_of (rule_at (view s) relation name) (not_some (is_none (rule_at (view s) relation name)) name p.named) in
      let paired : ArePaired (view s) = subst ArePaired (sym is.db) is.paired in
      let found = find_all (λ a. HasMainOf (view s) a (main_of relation a.rule)) (λ a. bytes_eq a.name name) (attachments_at (view s) relation) one.0 (paired relation) one.1 in
      record { one = one.0; there = one.1; main = of_main one.0 ((bytes_same one.0.name name).0 found.1) (main_of relation one.0.rule) found.0 }
    where
      of_main : (a : Attached) → a.name ≡ name → (o : Option (Name × Rule)) → HasMainOf (view s) a o → o ≡ None
      of_main a same None has = refl
      of_main a same (Some (other, rule)) has = absurd (posed other has.main.name (sym same ∙ has.named))

pub tested-may-work : TestedMayWork
tested-may-work m s g (command.Create relation method schema key) is posed none =
    subst (λ (db : Db). MayCreate m db relation method schema key) is.db
    (creates m s g is relation method schema key posed (passed (extensions_of m) s (command.Create relation method schema key) none))
tested-may-work m s g (command.Drop relation) is posed none =
    subst (λ (db : Db). MayDrop db g.queue relation) is.db (drops m s g is relation (passed (extensions_of m) s (command.Drop relation) none))
tested-may-work m s g (command.Attach relation name rule) is posed none =
    subst (λ (db : Db). MayAttach m db relation name rule) is.db
    (attaches m s g is relation name rule posed (passed (extensions_of m) s (command.Attach relation name rule) none))
tested-may-work m s g (command.Detach relation name) is posed none =
    subst (λ (db : Db). MayDetach db relation name) is.db (detaches m s g is relation name posed (passed (extensions_of m) s (command.Detach relation name) none))
tested-may-work m s g (command.Insert relation values) is posed none =
    let p = passed (extensions_of m) s (command.Insert relation values) none in
    subst (λ (db : Db). IsFittingWish db relation (Put values)) is.db (record { there = p.there; fits = is_none-none (first_misfit (schema_at (view s) relation) values) p.fits })
tested-may-work m s g (command.Delete relation at) is posed none =
    let p = passed (extensions_of m) s (command.Delete relation at) none in
    subst (λ (db : Db). IsFittingWish db relation (Remove at)) is.db (record { there = p.there; fits = tt })
tested-may-work m s g (command.Update relation at values) is posed none =
    let p = passed (extensions_of m) s (command.Update relation at values) none in
    subst (λ (db : Db). IsFittingWish db relation (Replace at values)) is.db (record { there = p.there; fits = is_none-none (first_misfit (schema_at (view s) relation) values) p.fits })
tested-may-work m s g (command.Act action) is posed none =
    let p = passed (extensions_of m) s (command.Act action) none in
    subst (λ (db : Db). IsFitting db action) is.db (record {
      there = p.there;
      named = none_mapped (λ (place : List Column × Name). place.1) (first_unnamed (action_places (schema_at (view s) (relation_of action)) [] action)) p.named;
      fits = p.fits;
    })
tested-may-work m s g (command.Register method code) is posed none = tt
tested-may-work m s g (command.Retire method code) is posed none = tt
tested-may-work m s g command.Begin is posed none = tt
tested-may-work m s g command.Commit is posed none = tt
tested-may-work m s g command.Abort is posed none = tt
tested-may-work m s g (command.Savepoint name) is posed none = tt
tested-may-work m s g (command.Rollback name) is posed none = tt
tested-may-work m s g (command.Get relation at) is posed none = tt
tested-may-work m s g (command.Scan relation after limit) is posed none = tt
tested-may-work m s g (command.Lookup relation name values) is posed none = tt
tested-may-work m s g (command.Range relation name low high) is posed none = tt
tested-may-work m s g (command.Entries relation name) is posed none = tt
tested-may-work m s g (command.Show relation) is posed none = tt
tested-may-work m s g command.Tables is posed none = tt
tested-may-work m s g command.Checkpoint is posed none = tt
