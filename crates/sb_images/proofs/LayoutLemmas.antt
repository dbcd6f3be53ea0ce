-- Where the parts of a store lie.
use Rattle.std.proofs.Common.{◌≡◌, ◌⊎◌, inl, inr, ⊎_elim, ℕ, ◌+◌, ◌<◌, ◌≤◌, List, ◌∷◌, length, drop, sym, ◌∙◌, ap, subst, arith, get_or}
use Rattle.std.proofs.lemmas.List.{length-take, length-drop, get_or-take}
use Rattle.sb_disk.specs.Disk.{Range, AgreesBut}
use Rattle.sb_disk.specs.Moments.{Sure}
use Rattle.sb_disk.proofs.RangeLemmas.{AgreesBut-slice}
use Rattle.sb_journal.specs.State.{State, Lies, IsOff}
use Rattle.sb_journal.proofs.RegionLemmas.{sure_more}
use Rattle.sb_log.specs.declared.geometry.Geometry.{Geometry}
use Rattle.sb_images.specs.Layout.{need, IsGeometry, gates_of, log_of, place_of, page_at, IsSuper, IsStoreOf}

-- the regions of a store lie in a disk that has room for it
pub Lies-geometry : (g : Geometry) (size : ℕ) → IsGeometry g → need g.pages g.log ≤ size → Lies size (gates_of g) (log_of g)
Lies-geometry g size sizes room =
    let most = sizes.log.1 in
    record { gates_fit = omega arith; log_fits = omega arith; apart = inl (omega arith); most = omega arith; short = omega arith }

-- and so do those of a journal that stands in them
pub Lies-at : (g : Geometry) (size : ℕ) (j : State) → IsGeometry g → need g.pages g.log ≤ size → j.gates ≡ gates_of g → j.log ≡ log_of g → Lies size j.gates j.log
Lies-at g size j sizes room gates log =
    subst (λ (r : Range). Lies size r j.log) (sym gates) (subst (λ (r : Range). Lies size (gates_of g) r) (sym log) (Lies-geometry g size sizes room))

-- each page lies in the disk
pub page_within : (g : Geometry) (size p : ℕ) → need g.pages g.log ≤ size → p < g.pages → place_of g p + 4096 ≤ size
page_within g size p room lt = omega arith

pub length-page_at : (g : Geometry) (p : ℕ) (image : List ℕ) → need g.pages g.log ≤ length image → p < g.pages → length (page_at g p image) ≡ 4096
length-page_at g p image room lt =
    omega (arith, length-take 4096 (drop (place_of g p) image), length-drop (place_of g p) image, page_within g (length image) p room lt)

-- ---- the parts don't meet
module _ (g : Geometry) (j : State) (gates : j.gates ≡ gates_of g) (log : j.log ≡ log_of g) where
  gates_start : j.gates.start ≡ 4096
  gates_start = ap (λ (r : Range). r.start) gates

  gates_len : j.gates.len ≡ 65536
  gates_len = ap (λ (r : Range). r.len) gates

  log_start : j.log.start ≡ 69632
  log_start = ap (λ (r : Range). r.start) log

  log_len : j.log.len ≡ g.log
  log_len = ap (λ (r : Range). r.len) log

  -- no byte of a page is in the journal's regions
  pub page_off_gates : (p : ℕ) (written : List Range) → Sure (place_of g p) 4096 written → Sure (place_of g p) 4096 (j.gates ∷ written)
  page_off_gates p written sure = sure_more (place_of g p) 4096 j.gates written sure (inr (let a = gates_start in let b = gates_len in omega arith))

  pub page_off_log : (p : ℕ) (written : List Range) → Sure (place_of g p) 4096 written → Sure (place_of g p) 4096 (j.log ∷ written)
  page_off_log p written sure = sure_more (place_of g p) 4096 j.log written sure (inr (let a = log_start in let b = log_len in omega arith))

  -- nor is one of the super page
  pub super_off_gates : (written : List Range) → Sure 0 4096 written → Sure 0 4096 (j.gates ∷ written)
  super_off_gates written sure = sure_more 0 4096 j.gates written sure (inl (let a = gates_start in omega arith))

  pub super_off_log : (written : List Range) → Sure 0 4096 written → Sure 0 4096 (j.log ∷ written)
  super_off_log written sure = sure_more 0 4096 j.log written sure (inl (let a = log_start in omega arith))

  -- bytes within a page are off the regions
  pub IsOff-page : (p at n : ℕ) → place_of g p ≤ at → IsOff j at n
  IsOff-page p at n from = record {
    of_gates = inl (let a = gates_start in let b = gates_len in omega arith);
    of_log = inl (let a = log_start in let b = log_len in omega arith);
  }

  -- a page lies behind the log
  pub log_before : (p : ℕ) → j.log.start + j.log.len ≤ place_of g p
  log_before p = let a = log_start in let b = log_len in omega arith

-- a write within a page is off the super page, and off every other page
pub super_off_page : (g : Geometry) (p at n : ℕ) (written : List Range) → place_of g p ≤ at → Sure 0 4096 written → Sure 0 4096 (record { start = at; len = n } ∷ written)
super_off_page g p at n written from sure = sure_more 0 4096 (record { start = at; len = n }) written sure (inl (omega arith))

pub page_off_page : (g : Geometry) (p q at n : ℕ) (written : List Range) → place_of g p ≤ at → at + n ≤ place_of g p + 4096 → (p < q) ⊎ (q < p) → Sure (place_of g q) 4096 written → Sure (place_of g q) 4096 (record { start = at; len = n } ∷ written)
page_off_page g p q at n written from to apart sure = sure_more (place_of g q) 4096 (record { start = at; len = n }) written sure
    (⊎_elim (λ (l : p < q). inr (omega arith)) (λ (l : q < p). inl (omega arith)) apart)

-- ---- parts that a change doesn't reach
pub page_at-AgreesBut : (g : Geometry) (p : ℕ) (ranges : List Range) (old new : List ℕ) → AgreesBut ranges old new → Sure (place_of g p) 4096 ranges → page_at g p new ≡ page_at g p old
page_at-AgreesBut g p ranges old new agrees sure = sym (AgreesBut-slice ranges old new (place_of g p) 4096 agrees sure)

pub IsStoreOf-AgreesBut : (g : Geometry) (ranges : List Range) (old new : List ℕ) → AgreesBut ranges old new → Sure 0 4096 ranges → IsStoreOf g old → IsStoreOf g new
IsStoreOf-AgreesBut g ranges old new agrees sure store = record {
  sizes = store.sizes;
  super = subst (λ (super : List ℕ). IsSuper g super) (AgreesBut-slice ranges old new 0 4096 agrees sure) store.super;
  room = (let size = agrees.size in let room = store.room in omega arith);
}

-- the gate of a store is open
pub IsStoreOf-gate : (g : Geometry) (image : List ℕ) → IsStoreOf g image → get_or image 0 0 ≡ 165
IsStoreOf-gate g image store = sym (get_or-take 4096 image 0 0 (omega arith)) ∙ store.super.gate

-- ---- one geometry
pub one_geometry : (g h : Geometry) (image : List ℕ) → IsStoreOf g image → IsStoreOf h image → g ≡ h
one_geometry g h image first second =
    let pages : g.pages ≡ h.pages = sym first.super.pages ∙ second.super.pages in
    let log : g.log ≡ h.log = sym first.super.log ∙ second.super.log in
    let version : g.version ≡ h.version = sym first.super.version ∙ second.super.version in
    λ i. record { pages = pages i; log = log i; version = version i }
