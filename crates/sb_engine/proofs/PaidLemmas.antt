-- What was changed, against what was paid for.
use Rattle.std.proofs.Common.{◌≡◌, ℕ, zero, suc, ◌+◌, ◌≤◌, Bool, true, cond, List, [], ◌∷◌, drop, sum_by, Option, Some, None, sym, ap, ◌∙◌, arith}
use Rattle.std.specs.List.{slice_get}
use Rattle.std.proofs.lemmas.List.Sums.{sum_by-cons}
use Rattle.std.proofs.lemmas.Option.{same_Some}
use Rattle.sb_rule.specs.declared.change.Change.{Change}
use Rattle.sb_relation.specs.Db.{Name, Attached, Relation, Db, relation_at}
use Rattle.sb_fold.specs.Costs.{change_cost, method_cost, rule_cost}
use Rattle.sb_fold.specs.Extensions.{Extensions, is_durable_method}
use Rattle.sb_fold.specs.Fold.{attachments_at}
use Rattle.sb_drive.specs.Spaces.{LeadsWithin}
use Rattle.sb_engine.specs.Working.{IsPaid, cost_from}

-- each change is one more
abbrev pub Spends : {S : Type 0} → (ℕ → S → Type 0) → (ℕ → S → S → Type 0) → Type 0
Spends {S} Spent Leads = (n k : ℕ) (a b : S) → Leads k a b → Spent n a → Spent (n + k) b

module _ {S : Type 0} (Spent : ℕ → S → Type 0) (Leads : ℕ → S → S → Type 0) (spends : Spends Spent Leads) (old new : S) where
  -- a call that changes no more than was paid for it
  pub paid_within : (most rest paid left more : ℕ) → paid + (most + left) ≤ more + rest → LeadsWithin Leads most old new → IsPaid Spent rest paid old
      → IsPaid Spent left more new
  paid_within most rest paid left more enough leads is = record {
    changes = is.changes + leads.changes;
    within = omega (arith, is.within, leads.within, enough);
    spent = spends is.changes leads.changes old new leads.leads is.spent;
  }

  -- one that changes nothing
  pub paid_looking : {rest paid : ℕ} → Leads 0 old new → IsPaid Spent rest paid old → IsPaid Spent rest paid new
  paid_looking {rest} {paid} leads is = record {
    changes = is.changes + 0;
    within = omega (arith, is.within);
    spent = spends is.changes 0 old new leads is.spent;
  }

-- ---- what a change costs
pub attachments_there : (db : Db) (name : Name) (r : Relation) → relation_at db name ≡ Some r → attachments_at db name ≡ r.attachments
attachments_there db name r there = ap (λ (o : Option Relation). elim o as (λ _. List Attached) [ None ↦ [] | Some r ↦ r.attachments ]) there

-- it is that of its storage method, and those of all attachments
pub change_charged : (ext : Extensions) (db : Db) (name : Name) (r : Relation) (c : Change) → relation_at db name ≡ Some r → is_durable_method ext r.method ≡ true
    → method_cost ext r c + cost_from ext db name c 0 ≡ change_cost ext db name r c
change_charged ext db name r c there durable =
    ap (λ (l : List Attached). method_cost ext r c + sum_by (λ a. rule_cost ext db name a.rule a.buckets c) l) (attachments_there db name r there)
    ∙ ap (λ (b : Bool). cond b (method_cost ext r c + sum_by (λ a. rule_cost ext db name a.rule a.buckets c) r.attachments) 0) (sym durable)

sum_at : {A : Type 0} (f : A → ℕ) (xs : List A) (i : ℕ) (x : A) → slice_get xs i ≡ Some x → sum_by f (drop i xs) ≡ f x + sum_by f (drop (i + 1) xs)
sum_at f [] i x at = absurd (cc)
sum_at f (y ∷ xs) zero x at = sum_by-cons f y xs ∙ ap (λ z. f z + sum_by f xs) (same_Some y x at)
sum_at f (y ∷ xs) (suc i) x at = sum_at f xs i x at ∙ ap (λ n. f x + sum_by f (drop n (y ∷ xs))) next
  where
    next : suc (i + 1) ≡ suc i + 1
    next = omega arith

-- those of one attachment and of the others behind it
pub cost_next : (ext : Extensions) (db : Db) (name : Name) (c : Change) (i : ℕ) (a : Attached) → slice_get (attachments_at db name) i ≡ Some a
    → cost_from ext db name c i ≡ rule_cost ext db name a.rule a.buckets c + cost_from ext db name c (i + 1)
cost_next ext db name c i a at = sum_at (λ x. rule_cost ext db name x.rule x.buckets c) (attachments_at db name) i a at
