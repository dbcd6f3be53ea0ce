-- A run of calls that goes on.
use Rattle.std.proofs.Common.{◌≡◌, ℕ, ◌+◌, ◌<◌, Option, None, List, ◌∷◌, length, drop, get_or, sym, ◌∙◌, ap, subst, add-one}
use Rattle.std.proofs.Math.Seq.{drop-cons}
use Rattle.sb_disk.specs.Disk.{Story}
use Rattle.sb_disk.specs.Moments.{Step, RanOk, RanErr}
use Rattle.sb_log.specs.declared.geometry.Geometry.{Geometry}
use Rattle.sb_images.specs.Layout.{place_of}
use Rattle.sb_pool.specs.Frames.{dirty_from, puts, put_out, HasFailed}
use Rattle.sb_pool.specs.State.{Held}
use Rattle.sb_pool.proofs.PutLemmas.{RanOk-put, RanErr-put, RanErr-failed}

-- however the rest of the calls ends, all of them end so
pub record RunsOn (rest all : List Step) (a b : Option Story) : Type 0 where
  pub ok : (c : Option Story) → RanOk rest b c → RanOk all a c
  pub err : (c : Option Story) → RanErr rest b c → RanErr all a c

pub RunsOn-none : (all : List Step) (a : Option Story) → RunsOn all all a a
RunsOn-none all a = record { ok = λ c ran. ran; err = λ c ran. ran }

-- one page more, of those that are written in order
module _ (g : Geometry) (all : List Step) (p : ℕ) (hs : List (Option Held)) (below : p < length hs) (a b : Option Story) (run : RunsOn (puts g (dirty_from p (drop p hs))) all a b) where
  rest_is : drop p hs ≡ get_or hs p None ∷ drop (p + 1) hs
  rest_is = drop-cons hs p None below ∙ ap (λ (k : ℕ). get_or hs p None ∷ drop k hs) (sym (add-one p))

  pub RunsOn-put : (c : Option Story) → c ≡ put_out (place_of g p) (get_or hs p None) b → RunsOn (puts g (dirty_from (p + 1) (drop (p + 1) hs))) all a c
  RunsOn-put c is = record {
    ok = λ d ran. run.ok d (subst (λ (l : List (Option Held)). RanOk (puts g (dirty_from p l)) b d) (sym rest_is) (RanOk-put g p (get_or hs p None) (dirty_from (p + 1) (drop (p + 1) hs)) b c d is ran));
    err = λ d ran. run.err d (subst (λ (l : List (Option Held)). RanErr (puts g (dirty_from p l)) b d) (sym rest_is) (RanErr-put g p (get_or hs p None) (dirty_from (p + 1) (drop (p + 1) hs)) b c d is ran));
  }

  pub RunsOn-failed : (c : Option Story) → HasFailed (place_of g p) (get_or hs p None) b c → RanErr all a c
  RunsOn-failed c failed = run.err c (subst (λ (l : List (Option Held)). RanErr (puts g (dirty_from p l)) b c) (sym rest_is) (RanErr-failed g p (get_or hs p None) (dirty_from (p + 1) (drop (p + 1) hs)) b c failed))
