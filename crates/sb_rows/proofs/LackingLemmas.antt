-- A call for which no page was left, as its driver tells it.
use Rattle.std.proofs.Common.{◌≡◌, ℕ, ◌<◌, ◌==◌, Bool, true, false, cond, List, [], ◌∷◌, map, Option, Some, None, option_map, refl, sym, ◌∙◌, subst}
use Rattle.std.specs.List.{find as first}
use Rattle.sb_relation.specs.Db.{Rows}
use Rattle.sb_treemethod.specs.Instance.{Instance}
use Rattle.sb_treemethod.specs.Method.{Method}
use Rattle.sb_treemethod.specs.MethodAnswers.{Spends}
use Rattle.sb_treemethod.specs.MethodCall.{MethodCall}
use Rattle.sb_treemethod.specs.Move.TheVariants.{Fresh}
use Rattle.sb_treemethod.specs.View.{HeldPage, View, as_given, dropped, holds_fresh}
use Rattle.sb_registry.specs.Slots.{Slots, owned}
use Rattle.sb_registry.specs.SpaceFault.{SpaceFault}
use Rattle.sb_registry.specs.SpaceFault.TheVariants.{Fault, DataFull, TempFull, LogFull, GatesFull, Damaged, Down, NoMemory}
use Rattle.sb_registry.specs.Spaces.{AreUsed, IsFullFor, IsReadFault, WhereFull}
use Rattle.sb_rows.specs.Lacking.{LacksFor, WhereShort}

-- ---- a page is held as a fresh one whatever was made of it
abbrev fresh_of : Option (ℕ × HeldPage) → Bool
fresh_of o = elim (option_map (λ e. e.1) o) [ None ↦ false | Some h ↦ h.fresh ]

fresh_given : (held : List (ℕ × HeldPage)) (n : ℕ)
    → fresh_of (first (λ e. e.0 == n) (map (λ e. (e.0, as_given e.1)) held)) ≡ fresh_of (first (λ e. e.0 == n) held)
fresh_given [] n = refl
fresh_given (e ∷ held) n =
    elim (e.0 == n) as (λ b.
    fresh_of (cond b (Some (e.0, as_given e.1)) (first (λ x. x.0 == n) (map (λ x. (x.0, as_given x.1)) held)))
    ≡ fresh_of (cond b (Some e) (first (λ x. x.0 == n) held))) [
      | true ↦ refl
      | false ↦ fresh_given held n
    ]

pub still_fresh : (c : View) (n : ℕ) → holds_fresh (dropped c) n ≡ true → holds_fresh c n ≡ true
still_fresh c n is = sym (fresh_given c.held n) ∙ is

-- ---- what is so where want of a page is the refusal
pub where_short : (e : SpaceFault) (IsSo IsThen : ℕ → Type 0) → ((n : ℕ) → IsSo n → IsThen n) → WhereShort e IsSo → WhereShort e IsThen
where_short (DataFull used total) IsSo IsThen then is = then total is
where_short (TempFull used total) IsSo IsThen then is = then total is
where_short Fault IsSo IsThen then is = tt
where_short (LogFull used more total) IsSo IsThen then is = tt
where_short (GatesFull used total) IsSo IsThen then is = tt
where_short (Damaged page) IsSo IsThen then is = tt
where_short Down IsSo IsThen then is = tt
where_short NoMemory IsSo IsThen then is = tt

-- it is no refusal of a call that reads
pub read_short : (e : SpaceFault) (IsSo : ℕ → Type 0) → IsReadFault e → WhereShort e IsSo
read_short (DataFull used total) IsSo read = absurd read
read_short (TempFull used total) IsSo read = absurd read
read_short Fault IsSo read = tt
read_short (LogFull used more total) IsSo read = tt
read_short (GatesFull used total) IsSo read = tt
read_short (Damaged page) IsSo read = tt
read_short Down IsSo read = tt
read_short NoMemory IsSo read = tt

-- ---- what the driver tells
pub used_by : (s : Slots) (c : View) (total used of : ℕ) → AreUsed total s (dropped c) used of
    → (m : ℕ) → m < of → (s m).0 ≡ 0 → holds_fresh c m ≡ true
used_by s c total used of full m below free = still_fresh c m (full.each m (subst (λ n. m < n) full.total_is below) free)

module _ {S : Type 0} (Leads : ℕ → S → S → Type 0) (Durable : S → Bool) (Total : S → ℕ) (box : Method) (inst : Instance) (call : MethodCall)
    (old : S) (s : Slots) (rows : Rows) (Asks IsWithin : View → Type 0) (spends : (c : View) → IsWithin c → Spends box inst call (owned s inst.owner) rows c Fresh) where
  lacks_of : (e : SpaceFault) (of : ℕ) (full : IsFullFor Leads Durable Total inst.owner Asks IsWithin old s e) → ((m : ℕ) → m < of → (s m).0 ≡ 0 → holds_fresh full.ctx m ≡ true)
      → LacksFor box inst call rows s of
  lacks_of e of full used =
      let within = spends full.ctx full.within in
      record { short = record { ctx = full.ctx; used = used; within = within.room }; gets = within.gets }

  pub lacks : (e : SpaceFault) → WhereFull e (IsFullFor Leads Durable Total inst.owner Asks IsWithin old s e) → WhereShort e (LacksFor box inst call rows s)
  lacks (DataFull used of) full = lacks_of (DataFull used of) of full (used_by s full.ctx (Total full.space) used of full.full.1)
  lacks (TempFull used of) full = lacks_of (TempFull used of) of full (used_by s full.ctx (Total full.space) used of full.full.1)
  lacks Fault full = tt
  lacks (LogFull used more total) full = tt
  lacks (GatesFull used total) full = tt
  lacks (Damaged page) full = tt
  lacks Down full = tt
  lacks NoMemory full = tt
