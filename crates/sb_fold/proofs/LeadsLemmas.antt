-- How runs of work compose, each with its picks.
use Rattle.std.proofs.Common.{◌≡◌, true, Bool, List, [], ◌∷◌, ◌++◌, refl, sym, ap, ◌∙◌, append_assoc, append-nil}
use Rattle.sb_relation.specs.Db.{Name, Key}
use Rattle.sb_relation.specs.Keys.{AnyOf}
use Rattle.sb_fold.specs.declared.refusal.Refusal.{Refusal}
use Rattle.sb_fold.specs.Outcome.{Going, Work, made, refuse, continue, ◌>>=◌, change_to, with_picks, Leads}
use Rattle.sb_fold.specs.Wishes.{take_key}

-- work comes to itself, without picks
pub leads_here : {A : Type 0} (f : Work A) (a : Going) → Leads f a [] f a
leads_here f a = record { leads = λ left. refl }

-- one run behind another
pub leads_then : {A : Type 0} {f h k : Work A} {a b c : Going} {ps qs : List Key} → Leads f a ps h b → Leads h b qs k c → Leads f a (ps ++ qs) k c
leads_then {f = f} {a = a} {ps = ps} {qs = qs} first second = record {
  leads = λ left. ap (λ (picks : List Key). f (with_picks a picks)) (append_assoc ps qs left) ∙ first.leads (qs ++ left) ∙ second.leads left;
}

-- what comes next goes along
pub leads_next : {A B : Type 0} {f h : Work A} {a b : Going} {ps : List Key} → (next : A → Work B) → Leads f a ps h b → Leads (f >>= next) a ps (h >>= next) b
leads_next next run = record { leads = λ left. ap (continue next) (run.leads left) }

-- where the first gives a value, the next goes on from there
pub leads_on : {A B : Type 0} {f : Work A} {h : Work B} {a b c : Going} {ps qs : List Key} {x : A} → (next : A → Work B)
    → Leads f a ps (made x) b → Leads (next x) b qs h c → Leads (f >>= next) a (ps ++ qs) h c
leads_on {f = f} {a = a} {ps = ps} {qs = qs} next first second = record {
  leads = λ left. ap (λ (picks : List Key). continue next (f (with_picks a picks))) (append_assoc ps qs left) ∙ ap (continue next) (first.leads (qs ++ left)) ∙ second.leads left;
}

-- where it is refused, so is the whole
pub leads_refused : {A B : Type 0} {f : Work A} {a b : Going} {ps : List Key} {r : Refusal} → (next : A → Work B) → Leads f a ps (refuse r) b → Leads (f >>= next) a ps (refuse r) b
leads_refused next run = record { leads = λ left. ap (continue next) (run.leads left) }

-- a refusal with more picks is the same refusal
pub refused_with_more : {A : Type 0} {f : Work A} {a b : Going} {ps : List Key} {r : Refusal} → (qs : List Key) → Leads f a ps (refuse r) b → Leads f a (ps ++ qs) (refuse r) b
refused_with_more {f = f} {a = a} {ps = ps} qs run = record {
  leads = λ left. ap (λ (picks : List Key). f (with_picks a picks)) (append_assoc ps qs left) ∙ run.leads (qs ++ left);
}

-- the same work at the start, and the same at the end, whatever the picks
pub leads_from : {A : Type 0} {f h : Work A} {a b : Going} {ps : List Key} → (g : Work A) → ((left : List Key) → g (with_picks a left) ≡ f (with_picks a left)) → Leads f a ps h b → Leads g a ps h b
leads_from {ps = ps} g same run = record { leads = λ left. same (ps ++ left) ∙ run.leads left }

pub leads_to : {A : Type 0} {f h : Work A} {a b : Going} {ps : List Key} → (k : Work A) → ((left : List Key) → h (with_picks b left) ≡ k (with_picks b left)) → Leads f a ps h b → Leads f a ps k b
leads_to k same run = record { leads = λ left. run.leads left ∙ same left }

-- a change of what stands that leaves the picks alone
pub leads_change : (f : Going → Going) (a : Going) → ((left : List Key) → f (with_picks a left) ≡ with_picks (f a) left) → Leads (change_to f) a [] (made tt) (f a)
leads_change f a same = record { leads = λ left. ap (made tt) (same left) }

-- one pick
pub leads_pick : (name : Name) (may : Key → Bool) (key : Key) (a : Going) → may key ≡ true → Leads (take_key name (AnyOf may)) a (key ∷ []) (made key) (record a { used = a.used ++ key ∷ [] })
leads_pick name may key a e = record { leads = λ left. cc }

-- all picks are used
pub leads_whole : {A : Type 0} {f h : Work A} {a b : Going} {ps : List Key} → Leads f a ps h b → f (with_picks a ps) ≡ h (with_picks b [])
leads_whole {f = f} {a = a} {ps = ps} run = ap (λ (picks : List Key). f (with_picks a picks)) (sym (append-nil ps)) ∙ run.leads []
