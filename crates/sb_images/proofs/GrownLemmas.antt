-- An image with more bytes behind it restores what it did.
use Rattle.std.proofs.Common.{◌≡◌, ℕ, ◌+◌, ◌-◌, ◌<◌, ◌≤◌, Option, Some, None, List, [], ◌∷◌, length, take, drop, get_or, sym, ◌∙◌, ap, subst, arith}
use Rattle.std.proofs.lemmas.List.{take-take, drop-take, get_or-take}
use Rattle.sb_disk.specs.Disk.{Story, Mounted}
use Rattle.sb_disk.proofs.MomentLemmas.{Mounted-IsSettled}
use Rattle.sb_journal.specs.Chunks.{ReadsFrom}
use Rattle.sb_log.specs.declared.geometry.Geometry.{Geometry}
use Rattle.sb_log.specs.Restored.{restored}
use Rattle.sb_images.specs.Layout.{place_of, IsSuper, IsStoreOf}
use Rattle.sb_images.specs.Images.{Restores}
use Rattle.sb_images.specs.Store.{IsMounted}
use Rattle.sb_images.proofs.LayoutLemmas.{page_within}

module _ (old new : List ℕ) (front : take (length old) new ≡ old) (longer : length old ≤ length new) where
  slice_by : (at n rest : ℕ) → at + rest ≡ length old → n ≤ rest → take n (drop at old) ≡ take n (drop at new)
  slice_by at n rest is within =
      ap (λ (l : List ℕ). take n (drop at l)) (sym front ∙ ap (λ (k : ℕ). take k new) (sym is))
      ∙ ap (λ (l : List ℕ). take n l) (drop-take at rest new) ∙ take-take n rest (drop at new) within

  -- the same bytes stand in front
  grown_slice : (at n : ℕ) → at + n ≤ length old → take n (drop at old) ≡ take n (drop at new)
  grown_slice at n within = slice_by at n (length old - at) (omega arith) (omega arith)

  grown_byte : (i : ℕ) → i < length old → get_or old i 0 ≡ get_or new i 0
  grown_byte i below = ap (λ (l : List ℕ). get_or l i 0) (sym front) ∙ get_or-take (length old) new i 0 below

  grown_reads : (chunks : List (List ℕ)) (gate gates_end at log_end : ℕ) → gates_end ≤ length old → log_end ≤ length old → ReadsFrom gate gates_end at log_end old chunks → ReadsFrom gate gates_end at log_end new chunks
  grown_reads [] gate gates_end at log_end gates log reads = λ below is_open. reads below (grown_byte gate (omega arith) ∙ is_open)
  grown_reads (chunk ∷ chunks) gate gates_end at log_end gates log reads =
      let below = reads.0 in
      let fits = reads.2 in (
        reads.0,
        sym (grown_byte gate (omega arith)) ∙ reads.1,
        reads.2,
        sym (grown_slice at (4 + length chunk) (omega arith)) ∙ reads.3,
        grown_reads chunks (gate + 1) gates_end (at + 4 + length chunk) log_end gates log reads.4,
      )

  grown_store : (g : Geometry) → IsStoreOf g old → IsStoreOf g new
  grown_store g store = let room = store.room in record {
    sizes = store.sizes;
    super = subst (λ (super : List ℕ). IsSuper g super) (grown_slice 0 4096 (omega arith)) store.super;
    room = omega arith;
  }

  pub Restores-grown : (g : Geometry) (want : ℕ → List ℕ) → Restores g want old → Restores g want new
  Restores-grown g want restores = let room = restores.store.room in record {
    recs = restores.recs;
    store = grown_store g restores.store;
    logs = record {
      chunks = restores.logs.chunks;
      reads = grown_reads restores.logs.chunks 4096 69632 69632 (69632 + g.log) (omega arith) (omega arith) restores.logs.reads;
      spells = restores.logs.spells;
      sound = restores.logs.sound;
    };
    covered = restores.covered;
    each = λ p lt. ap (λ (d : List ℕ). restored restores.recs p d) (sym (grown_slice (place_of g p) 4096 (page_within g (length old) p room lt))) ∙ restores.each p lt;
  }

-- so a mount leaves it
pub IsMounted-mount : (want : ℕ → List ℕ) (g : Geometry) (told new : Option Story) → Mounted told new → IsMounted want told g → IsMounted want new g
IsMounted-mount want g None new grown mounted = subst (λ (m : Option Story). IsMounted want m g) (sym grown) tt
IsMounted-mount want g (Some s) None grown mounted = absurd grown
IsMounted-mount want g (Some s) (Some t) grown mounted = (Mounted-IsSettled (Some s) (Some t) grown mounted.0, Restores-grown s.now.reads t.now.reads grown.front grown.longer g want mounted.1)
