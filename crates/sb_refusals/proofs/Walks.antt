-- A walk over the relations, each from the name of the one before it.
use Rattle.std.proofs.Common.{◌≡◌, ℕ, ◌+◌, ◌<◌, ◌≤◌, Bool, true, false, cond, T, [], ◌∷◌, length, Option, Some, None, refl, sym, ap, subst, ◌∙◌, arith, is_lt, Less}
use Rattle.std.specs.Ordering.{ordering_reverse}
use Rattle.std.specs.FinMap.Entries.{is_sorted, below_all}
use Rattle.std.proofs.lemmas.Cmp.{nat_list_cmp_total, tied_itself}
use Rattle.sb_value.specs.Order.{bytes_cmp}
use Rattle.sb_value.proofs.Truths.{T-parts, T-less, T-true, true-T}
use Rattle.sb_relation.specs.Db.{Name, Relation, Db}
use Rattle.sb_plain.specs.declared.command.Command.{Command}
use Rattle.sb_refusals.specs.declared.uses.Step.{Step}
use Rattle.sb_refusals.specs.declared.uses.Step.TheVariants.{Used, Unused, End}
use Rattle.sb_refusals.specs.Catalogue.{is_above, above}
use Rattle.sb_refusals.specs.Uses.{user_at, user_in, IsStep}

-- what is below all is below what stands above a name
below_first : (x : Name) (low : Option Name) (e : Name × Relation) (rest db : Db) → T (below_all bytes_cmp x db) → above low db ≡ e ∷ rest → bytes_cmp x e.0 ≡ Less
below_first x low e rest [] h is = cc
below_first x low e rest (y ∷ db) h is = by (is_above low y.0) refl (λ k. below_first x low e rest db both.1 k)
  where
    both : T (is_lt (bytes_cmp x y.0)) × T (below_all bytes_cmp x db)
    both = T-parts (is_lt (bytes_cmp x y.0)) (below_all bytes_cmp x db) h

    first_of : (y e : Name × Relation) (db rest : Db) → y ∷ db ≡ e ∷ rest → y ≡ e
    first_of y e db rest is = cc

    by : (t : Bool) → is_above low y.0 ≡ t → (above low db ≡ e ∷ rest → bytes_cmp x e.0 ≡ Less) → bytes_cmp x e.0 ≡ Less
    by true t further =
        let here : y ≡ e = first_of y e (above low db) rest (sym (ap (λ b. cond b (y ∷ above low db) (above low db)) t) ∙ is) in
        subst (λ (z : Name × Relation). bytes_cmp x z.0 ≡ Less) here (T-less (bytes_cmp x y.0) both.0)
    by false t further = further (sym (ap (λ b. cond b (y ∷ above low db) (above low db)) t) ∙ is)

-- all above what is above
all_above : (x : Name) (db : Db) → T (below_all bytes_cmp x db) → above (Some x) db ≡ db
all_above x [] h = refl
all_above x (y ∷ db) h =
    let both = T-parts (is_lt (bytes_cmp x y.0)) (below_all bytes_cmp x db) h in
    ap (λ b. cond b (y ∷ above (Some x) db) (above (Some x) db)) (T-true (is_lt (bytes_cmp x y.0)) both.0) ∙ ap (λ (ys : Db). y ∷ ys) (all_above x db both.1)

above_further : (low : Option Name) (x : Name) (db : Db) → is_above low x ≡ true → T (below_all bytes_cmp x db) → above low db ≡ db
above_further None x db is h = by db
  where
    by : (db : Db) → above None db ≡ db
    by [] = refl
    by (y ∷ db) = ap (λ (ys : Db). y ∷ ys) (by db)
above_further (Some low) x [] is h = refl
above_further (Some low) x (y ∷ db) is h =
    let both = T-parts (is_lt (bytes_cmp x y.0)) (below_all bytes_cmp x db) h in
    let here : bytes_cmp low y.0 ≡ Less = nat_list_cmp_total.trans low x y.0 (T-less (bytes_cmp low x) (true-T (is_lt (bytes_cmp low x)) is)) (T-less (bytes_cmp x y.0) both.0) in
    ap (λ o. cond (is_lt o) (y ∷ above (Some low) db) (above (Some low) db)) here ∙ ap (λ (ys : Db). y ∷ ys) (above_further (Some low) x db is both.1)

-- above the first one stand the others
above-first : (low : Option Name) (e : Name × Relation) (rest db : Db) → T (is_sorted bytes_cmp db) → above low db ≡ e ∷ rest → above (Some e.0) db ≡ rest
above-first low e rest [] rises is = cc
above-first low e rest (x ∷ db) rises is = by (is_above low x.0) refl (λ k. above-first low e rest db rising.1 k)
  where
    rising : T (below_all bytes_cmp x.0 db) × T (is_sorted bytes_cmp db)
    rising = T-parts (below_all bytes_cmp x.0 db) (is_sorted bytes_cmp db) rises

    tail_of : (y e : Name × Relation) (db rest : Db) → y ∷ db ≡ e ∷ rest → (y ≡ e) × (db ≡ rest)
    tail_of y e db rest is = (cc, cc)

    by : (t : Bool) → is_above low x.0 ≡ t → (above low db ≡ e ∷ rest → above (Some e.0) db ≡ rest) → above (Some e.0) (x ∷ db) ≡ rest
    by true t later =
        let same = tail_of x e (above low db) rest (sym (ap (λ b. cond b (x ∷ above low db) (above low db)) t) ∙ is) in
        subst (λ (z : Name × Relation). above (Some z.0) (x ∷ db) ≡ rest) same.0
        (ap (λ o. cond (is_lt o) (x ∷ above (Some x.0) db) (above (Some x.0) db)) (tied_itself nat_list_cmp_total x.0)
        ∙ all_above x.0 db rising.0 ∙ sym (above_further low x.0 db t rising.0) ∙ same.1)
    by false t later =
        let further : above low db ≡ e ∷ rest = sym (ap (λ b. cond b (x ∷ above low db) (above low db)) t) ∙ is in
        ap (λ o. cond (is_lt o) (x ∷ above (Some e.0) db) (above (Some e.0) db)) (nat_list_cmp_total.antisymm e.0 x.0 ∙ ap ordering_reverse (below_first x.0 low e rest db rising.0 further))
        ∙ later further

-- ---- the steps of a walk
-- so far no relation has a user; so many turns were taken
pub record HasWalked (c : Command) (db : Db) (low : Option Name) (turns : ℕ) : Type 0 where
  pub rest : user_in c db ≡ user_in c (above low db)
  pub few : length (above low db) + turns ≤ length db

pub HasWalked-none : (c : Command) (db : Db) → HasWalked c db None 0
HasWalked-none c db = record {
  rest = ap (user_in c) (sym (all db));
  few = subst (λ (x : Db). length x + 0 ≤ length db) (sym (all db)) (omega arith);
}
  where
    all : (db : Db) → above None db ≡ db
    all [] = refl
    all (y ∷ db) = ap (λ (ys : Db). y ∷ ys) (all db)

HasWalked-more : (c : Command) (db : Db) (low : Option Name) (turns : ℕ) (name : Name) → T (is_sorted bytes_cmp db) → HasWalked c db low turns → IsStep c (above low db) (Unused name)
    → HasWalked c db (Some name) (turns + 1)
HasWalked-more c db low turns name rises so step = by (above low db) refl step
  where
    by : (there : Db) → above low db ≡ there → IsStep c there (Unused name) → HasWalked c db (Some name) (turns + 1)
    by [] is step = absurd step
    by (e ∷ rest) is step =
        let next : above (Some name) db ≡ rest = ap (λ (n : Name). above (Some n) db) step.0 ∙ above-first low e rest db rises is in
        record {
          rest = so.rest ∙ ap (user_in c) is ∙ ap (λ o. elim o as (λ _. Option (Name × Name)) [ None ↦ user_in c rest | Some user ↦ Some (e.0, user) ]) step.1 ∙ ap (user_in c) (sym next);
          few = omega (arith, so.few, ap length is, ap length next);
        }

used : (c : Command) (db : Db) (low : Option Name) (turns : ℕ) (relation name : Name) → HasWalked c db low turns → IsStep c (above low db) (Used relation name)
    → Some (relation, name) ≡ user_in c db
used c db low turns relation name so step = by (above low db) refl step
  where
    by : (there : Db) → above low db ≡ there → IsStep c there (Used relation name) → Some (relation, name) ≡ user_in c db
    by [] is step = absurd step
    by (e ∷ rest) is step =
        ap (λ (n : Name). Some (n, name)) step.0
        ∙ sym (so.rest ∙ ap (user_in c) is ∙ ap (λ o. elim o as (λ _. Option (Name × Name)) [ None ↦ user_in c rest | Some user ↦ Some (e.0, user) ]) step.1)

ended : (c : Command) (db : Db) (low : Option Name) (turns : ℕ) → HasWalked c db low turns → IsStep c (above low db) End → None ≡ user_in c db
ended c db low turns so step = by (above low db) refl step
  where
    by : (there : Db) → above low db ≡ there → IsStep c there End → None ≡ user_in c db
    by [] is step = sym (so.rest ∙ ap (user_in c) is)
    by (e ∷ rest) is step = absurd step

-- a step from the name that is kept, by what it answers
step_from : (c : Command) (db : Db) (low from : Option Name) (x y : Step) → from ≡ low → x ≡ y → IsStep c (above from db) x → IsStep c (above low db) y
step_from c db low from x y e is step = subst (λ (z : Step). IsStep c (above low db) z) is (subst (λ (n : Option Name). IsStep c (above n db) x) e step)

pub passes : (c : Command) (db : Db) (low from : Option Name) (turns : ℕ) (x : Step) (name : Name) → from ≡ low → x ≡ Unused name → T (is_sorted bytes_cmp db) → HasWalked c db low turns
    → IsStep c (above from db) x → HasWalked c db (Some name) (turns + 1)
passes c db low from turns x name e is rises so step = HasWalked-more c db low turns name rises so (step_from c db low from x (Unused name) e is step)

pub finds : (c : Command) (db : Db) (low from : Option Name) (turns : ℕ) (x : Step) (relation name : Name) → from ≡ low → x ≡ Used relation name → HasWalked c db low turns
    → IsStep c (above from db) x → Some (relation, name) ≡ user_in c db
finds c db low from turns x relation name e is so step = used c db low turns relation name so (step_from c db low from x (Used relation name) e is step)

pub ends : (c : Command) (db : Db) (low from : Option Name) (turns : ℕ) (x : Step) → from ≡ low → x ≡ End → HasWalked c db low turns → IsStep c (above from db) x → None ≡ user_in c db
ends c db low from turns x e is so step = ended c db low turns so (step_from c db low from x End e is step)

-- there are no more relations than turns
pub all_walked : (c : Command) (db : Db) (low : Option Name) (turns most : ℕ) → length db < most → most ≤ turns + 1 → HasWalked c db low turns → None ≡ user_in c db
all_walked c db low turns most few many so = sym (so.rest ∙ ap (user_in c) (no_more (above low db) (omega (arith, so.few))))
  where
    no_more : (xs : Db) → length xs ≤ 0 → xs ≡ []
    no_more [] h = refl
    no_more (x ∷ xs) h = absurd (omega arith)

-- ---- the users of what is defined
unused : (c : Command) → ((name : Name) (r : Relation) → user_at c name r ≡ None) → (db : Db) → user_in c db ≡ None
unused c none [] = refl
unused c none (e ∷ db) = ap (λ o. elim o as (λ _. Option (Name × Name)) [ None ↦ user_in c db | Some user ↦ Some (e.0, user) ]) (none e.0 e.1) ∙ unused c none db
