-- A space of pages that is lent to another one, which sees what is asked of it.
use Rattle.std.specs.Prelude.{◌≡◌, ℕ, ◌+◌}
use Rattle.std.specs.Borrow.{MutBor}
use Rattle.std.proofs.Common.{◌∙◌}

-- the same space is lent, and so many changes lead from what it was to what it is
pub record LeadsLent {S : Type 0} (Leads : ℕ → S → S → Type 0) (changes : ℕ) (old new : MutBor S) : Type 0 where
  pub same : new.ghost_name ≡ old.ghost_name
  pub leads : Leads changes old.now new.now

pub LeadsLent-then : {S : Type 0} (Leads : ℕ → S → S → Type 0) → ((k l : ℕ) (a b c : S) → Leads k a b → Leads l b c → Leads (k + l) a c)
    → (k l : ℕ) (a b c : MutBor S) → LeadsLent Leads k a b → LeadsLent Leads l b c → LeadsLent Leads (k + l) a c
LeadsLent-then Leads on k l a b c one two = record { same = two.same ∙ one.same; leads = on k l a.now b.now c.now one.leads two.leads }
