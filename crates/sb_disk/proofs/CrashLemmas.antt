-- A run of commands with one command more.
use Rattle.std.proofs.Common.{◌≡◌, ⊎_elim, ℕ, ◌+◌, ◌<◌, ◌≤◌, Option, Some, None, List, [], ◌∷◌, ◌++◌, length, get_or, refl, sym, subst, arith}
use Rattle.std.proofs.lemmas.List.{get_or_append_left, get_or_push, get_or_past, get_or_default, length_push}
use Rattle.std.proofs.lemmas.Bool.{cases_lt}
use Rattle.sb_disk.specs.Disk.{Story, Fits}
use Rattle.sb_disk.specs.Moments.{MayLeave, LeavesOnly}
use Rattle.sb_disk.specs.Crashes.{CrashesOf, Crashes}

-- before the first command
pub Crashes-none : (told : Option Story) (P : ℕ → List ℕ → Type 0) → Crashes [] told P
Crashes-none None P = tt
Crashes-none (Some s) P = record { begun = λ m. omega arith; each = λ m t image none. absurd (omega arith) }

module _ (starts : List ℕ) (s t : Story) (P : ℕ → List ℕ → Type 0) (so_far : CrashesOf starts s P) (run : LeavesOnly (Some s) (Some t) (P (length starts))) where
  abbrev more : List ℕ
  more = starts ++ length s.before ∷ []

  -- the new command begins now, whatever stands for a command that isn't there
  more_last : (d : ℕ) → get_or more (length starts) d ≡ length s.before
  more_last d = get_or_push starts (length s.before) d (length starts) refl

  -- each command began by now
  begun_more : (m : ℕ) → get_or more m 0 ≤ length t.before
  begun_more m = ⊎_elim
      (λ (old : m < length starts). let begun = so_far.begun m in let later = run.later in omega (arith, get_or_append_left starts (length s.before ∷ []) 0 m old))
      (λ (new : length starts ≤ m). ⊎_elim
      (λ (last : m < length starts + 1). let same : length starts ≡ m = omega arith in let later = run.later in subst (λ (k : ℕ). get_or more k 0 ≤ length t.before) same (let begins = more_last 0 in omega arith))
      (λ (past : length starts + 1 ≤ m). let none : get_or more m 0 ≡ 0 = get_or_past more m 0 (omega (arith, length_push starts (length s.before))) in omega arith)
      (cases_lt m (length starts + 1)))
      (cases_lt m (length starts))

  -- a moment of an earlier command lies before the new one, and in the command as it stood
  earlier : (m k : ℕ) → m < length starts → k < get_or more (m + 1) (length t.before + 1) → (k < length s.before) × (k < get_or starts (m + 1) (length s.before + 1))
  earlier m k old until = ⊎_elim
      (λ (followed : m + 1 < length starts). let begun = so_far.begun (m + 1) in
      let next : get_or more (m + 1) (length t.before + 1) ≡ get_or starts (m + 1) (length t.before + 1) = get_or_append_left starts (length s.before ∷ []) (length t.before + 1) (m + 1) followed in
      let next_is : get_or starts (m + 1) (length t.before + 1) ≡ get_or starts (m + 1) 0 = get_or_default starts (m + 1) (length t.before + 1) 0 followed in
      let next_was : get_or starts (m + 1) (length s.before + 1) ≡ get_or starts (m + 1) 0 = get_or_default starts (m + 1) (length s.before + 1) 0 followed in
      (omega arith, omega arith))
      (λ (last : length starts ≤ m + 1). let same : length starts ≡ m + 1 = omega arith in
      let begins = more_last (length t.before + 1) in
      let until_new : k < get_or more (length starts) (length t.before + 1) = subst (λ (i : ℕ). k < get_or more i (length t.before + 1)) (sym same) until in
      let none : get_or starts (m + 1) (length s.before + 1) ≡ length s.before + 1 = get_or_past starts (m + 1) (length s.before + 1) last in
      (omega arith, omega arith))
      (cases_lt (m + 1) (length starts))

  -- what a crash in an earlier command may leave
  older : (m k : ℕ) (image : List ℕ) → m < length starts → get_or more m 0 ≤ k → k < get_or more (m + 1) (length t.before + 1) → MayLeave (Some t) k image → P m image
  older m k image old from until left =
      let within = earlier m k old until in
      so_far.each m k image old (subst (λ (n : ℕ). n ≤ k) (get_or_append_left starts (length s.before ∷ []) 0 m old) from) within.1 (run.before k image within.0 left)

  crash_more : CrashesOf more t P
  crash_more = record {
    begun = begun_more;
    each = λ m k image one from until left. ⊎_elim
        (λ (old : m < length starts). older m k image old from until left)
        (λ (new : length starts ≤ m).
        let same : length starts ≡ m = (let size = length_push starts (length s.before) in omega arith) in
        let since : get_or more (length starts) 0 ≤ k = subst (λ (i : ℕ). get_or more i 0 ≤ k) (sym same) from in
        let begins = more_last 0 in
        subst (λ (i : ℕ). P i image) same (run.since k image (omega arith) left))
        (cases_lt m (length starts));
  }

-- One command more, which began at the clock's number.
pub Crashes-more : (starts : List ℕ) (size clock : ℕ) (a b : Option Story) (P : ℕ → List ℕ → Type 0) → Fits size clock a → Crashes starts a P → LeavesOnly a b (P (length starts)) → Crashes (starts ++ clock ∷ []) b P
Crashes-more starts size clock None None P fits so_far run = tt
Crashes-more starts size clock None (Some t) P fits so_far run = let tells = run.tells in absurd (cc tells)
Crashes-more starts size clock (Some s) None P fits so_far run = tt
Crashes-more starts size clock (Some s) (Some t) P fits so_far run =
    subst (λ (n : ℕ). CrashesOf (starts ++ n ∷ []) t P) fits.moments (crash_more starts s t P so_far run)
