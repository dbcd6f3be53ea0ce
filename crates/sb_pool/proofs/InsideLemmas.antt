-- A pool and its frames.
use Rattle.std.proofs.Common.{◌≡◌, ℕ, zero, suc, Option, Some, None, List, [], ◌∷◌, length, map, get_or, ◌∙◌, ap, subst}
use Rattle.std.specs.List.{All}
use Rattle.std.proofs.lemmas.List.{length-map}
use Rattle.std.proofs.lemmas.List.Elements.{All-head, All-tail}
use Rattle.sb_disk.specs.Disk.{Story}
use Rattle.sb_disk.specs.Moments.{RanOk, RanErr}
use Rattle.sb_log.specs.declared.geometry.Geometry.{Geometry}
use Rattle.sb_pool.specs.declared.frame.Content.{Content}
use Rattle.sb_pool.specs.declared.frame.Content.TheVariants.{Nothing, Clean, Dirty}
use Rattle.sb_pool.specs.declared.frame.Frame.{Frame}
use Rattle.sb_pool.specs.declared.pool.Pool.TheInside.{Inside}
use Rattle.sb_pool.specs.State.{Held, State, cleaned, flushed}
use Rattle.sb_pool.specs.Frames.{IsFrame, held_as, held_of, dirty_from, puts}
use Rattle.sb_pool.specs.View.{state_of, Kept}
use Rattle.sb_pool.proofs.FlushLemmas.{IsPool, none_some, dirty_pages}

-- a page that is held has the bytes of its frame
held_bytes : (content : Content) (bytes : List ℕ) (x : Held) → held_as content bytes ≡ Some x → bytes ≡ x.bytes
held_bytes Nothing bytes x is = absurd (none_some x is)
held_bytes Clean bytes x is = cc
held_bytes Dirty bytes x is = cc

long_at : (frames : List Frame) (p : ℕ) (x : Held) → All IsFrame frames → get_or (map held_of frames) p None ≡ Some x → length x.bytes ≡ 4096
long_at [] p x long is = absurd (none_some x is)
long_at (f ∷ frames) zero x long is = subst (λ (l : List ℕ). length l ≡ 4096) (held_bytes f.content f.bytes.items x is) (All-head IsFrame f frames long)
long_at (f ∷ frames) (suc p) x long is = long_at frames p x (All-tail IsFrame f frames long) is

IsPool-view : (a : Inside) → Kept a → IsPool (state_of a)
IsPool-view a kept = record { count = length-map a.frames.items held_of ∙ kept.count; long = λ p x is. long_at a.frames.items p x kept.long is }

abbrev flushed_with : Geometry → List (Option Held) → State
flushed_with g pages = record { geometry = g; pages = pages; position = 0 }

module _ (a : Inside) (pool : State) (is : state_of a ≡ pool) where
  pub IsPool-inside : Kept a → IsPool pool
  IsPool-inside kept = subst IsPool is (IsPool-view a kept)

  -- a run over the frames writes the dirty pages
  pub RanOk-inside : (frames : List Frame) (b c : Option Story) → frames ≡ a.frames.items → RanOk (puts a.geometry (dirty_from 0 (map held_of frames))) b c → RanOk (puts pool.geometry (dirty_pages pool)) b c
  RanOk-inside frames b c same ran = subst (λ (s : State). RanOk (puts s.geometry (dirty_pages s)) b c) is (subst (λ (fs : List Frame). RanOk (puts a.geometry (dirty_from 0 (map held_of fs))) b c) same ran)

  pub RanErr-inside : (frames : List Frame) (b c : Option Story) → frames ≡ a.frames.items → RanErr (puts a.geometry (dirty_from 0 (map held_of frames))) b c → RanErr (puts pool.geometry (dirty_pages pool)) b c
  RanErr-inside frames b c same ran = subst (λ (s : State). RanErr (puts s.geometry (dirty_pages s)) b c) is (subst (λ (fs : List Frame). RanErr (puts a.geometry (dirty_from 0 (map held_of fs))) b c) same ran)

  -- with each frame clean
  pub flushed-inside : (frames new : List Frame) → frames ≡ a.frames.items → map held_of new ≡ map cleaned (map held_of frames) → record { geometry = a.geometry; pages = map held_of new; position = 0 } ≡ flushed pool
  flushed-inside frames new same clean =
      ap (λ (l : List (Option Held)). flushed_with a.geometry l) (clean ∙ ap (λ (fs : List Frame). map cleaned (map held_of fs)) same) ∙ ap flushed is
