-- A write that is undone, and a write that was torn.
use Rattle.std.proofs.Common.{◌≡◌, Bool, true, false, cond, ◌==◌, Option, Some, None, ◌||◌, inl, ⊎_elim, ℕ, ◌+◌, ◌-◌, ◌<◌, ◌≤◌, List, [], ◌∷◌, ◌++◌, length, get_or, take, drop, reverse, refl, sym, ◌∙◌, ap, arith, length-drop}
use Rattle.std.proofs.lemmas.List.{length-take, get_or-take, get_or-drop, ext_get_or, reverse-append}
use Rattle.std.proofs.lemmas.Bool.{cases_lt}
use Rattle.std.proofs.lemmas.Bool.Decides.{nat_tests}
use Rattle.sb_bytes.specs.Bytes.{splice}
use Rattle.sb_bytes.proofs.BytesLaws.{length-splice, slice-splice}
use Rattle.sb_disk.specs.Disk.{Story, IsIn, AgreesBut, after_write, WriteFault, TornWrite}
use Rattle.sb_disk.proofs.RangeLemmas.{splice-AgreesBut}
use Rattle.sb_memdisk.specs.declared.past.Entry.{Entry}
use Rattle.sb_memdisk.specs.declared.past.Lull.{Lull}
use Rattle.sb_memdisk.specs.declared.past.Stop.{Stop}
use Rattle.sb_memdisk.specs.Failing.{has_stopped, torn_len}
use Rattle.sb_memdisk.specs.Past.{after_lull, story_after, story_of, IsStored}

-- the bytes that stood in the range, put there again after some of them were replaced
pub splice-undone : (at count : ℕ) (front old : List ℕ) → length front ≤ count → at + count ≤ length old → splice at (take count (drop at old)) (splice at front old) ≡ old
splice-undone at count front old within fits =
    ext_get_or 0 (splice at replaced changed) old (length-splice at replaced changed (omega (arith, size, same_size)) ∙ same_size) (λ i below.
    ⊎_elim
    (λ (ahead : i < at). outside i (λ here. let from = here.0 in omega arith) (λ here. let from = here.0 in omega arith))
    (λ (from : at ≤ i). ⊎_elim
    (λ (to : i < at + count). inside i (i - at) (omega arith) (omega (arith, size)))
    (λ (behind : at + count ≤ i). outside i (λ here. let until = here.1 in omega (arith, size)) (λ here. let until = here.1 in omega arith))
    (cases_lt i (at + count)))
    (cases_lt i at))
  where
    replaced : List ℕ
    replaced = take count (drop at old)

    changed : List ℕ
    changed = splice at front old

    size : length replaced ≡ count
    size = omega (arith, length-take count (drop at old), length-drop at old)

    same_size : length changed ≡ length old
    same_size = length-splice at front old (omega arith)

    outside : (i : ℕ) → ¬ IsIn i (record { start = at; len = length replaced }) → ¬ IsIn i (record { start = at; len = length front }) → get_or (splice at replaced changed) i 0 ≡ get_or old i 0
    outside i out_again out =
        sym ((splice-AgreesBut at replaced changed (omega (arith, size, same_size))).bytes i (λ covered. ⊎_elim out_again (λ none. none) covered))
        ∙ sym ((splice-AgreesBut at front old (omega arith)).bytes i (λ covered. ⊎_elim out (λ none. none) covered))

    inside : (i k : ℕ) → i ≡ at + k → k < length replaced → get_or (splice at replaced changed) i 0 ≡ get_or old i 0
    inside i k is below =
        ap (λ (j : ℕ). get_or (splice at replaced changed) j 0) is
        ∙ sym (get_or-drop at (splice at replaced changed) k 0)
        ∙ sym (get_or-take (length replaced) (drop at (splice at replaced changed)) k 0 below)
        ∙ ap (λ (l : List ℕ). get_or l k 0) (slice-splice at replaced changed (omega (arith, same_size)))
        ∙ get_or-take count (drop at old) k 0 (omega (arith, size))
        ∙ get_or-drop at old k 0
        ∙ ap (λ (j : ℕ). get_or old j 0) (sym is)

-- one write more
pub story_after-noted : (lull : Lull) (past next : List Entry) (entry : Entry) (written : ℕ) (before after : List ℕ) → next ≡ past ++ entry ∷ [] → entry.lull ≡ lull → length entry.replaced.items ≡ written
    → splice entry.at entry.replaced.items after ≡ before → story_after (reverse next) after ≡ after_write entry.at written after (after_lull lull (story_after (reverse past) before))
story_after-noted lull past next entry written before after is same_lull size undone =
    ap (λ (l : List Entry). story_after l after) (ap reverse is ∙ reverse-append past (entry ∷ []))
    ∙ ap (λ (l : Lull). after_write entry.at (length entry.replaced.items) after (after_lull l (story_after (reverse past) (splice entry.at entry.replaced.items after)))) same_lull
    ∙ ap (λ (n : ℕ). after_write entry.at n after (after_lull lull (story_after (reverse past) (splice entry.at entry.replaced.items after)))) size
    ∙ ap (λ (bytes : List ℕ). after_write entry.at written after (after_lull lull (story_after (reverse past) bytes))) undone

-- what a disk tells after a write that was stored, from what it told before
pub story_of-stored : (lull : Lull) (at : ℕ) (written : List ℕ) (kept : ℕ) (before after held held_now : List ℕ) (past next : List Entry) (s : Story) → IsStored lull at written kept before after past next
    → held ≡ before → held_now ≡ after → story_of past lull held ≡ s → held ≡ (story_of past lull held).now.reads
    → story_after (reverse next) held_now ≡ after_write at (length written) (splice at (take kept written) s.now.reads) s
story_of-stored lull at written kept before after held held_now past next s stored same same_now told reads =
    ap (λ (l : List ℕ). story_after (reverse next) l) same_now
    ∙ stored.story
    ∙ ap (λ (l : List ℕ). after_write at (length written) l (after_lull lull (story_after (reverse past) before))) (stored.bytes ∙ ap (λ (l : List ℕ). splice at (take kept written) l) (sym same ∙ reads ∙ ap (λ (t : Story). t.now.reads) told))
    ∙ ap (λ (t : Story). after_write at (length written) (splice at (take kept written) s.now.reads) t) (ap (λ (l : List ℕ). story_of past lull l) (sym same) ∙ told)

-- a write of which only the first bytes are stored is a torn one
pub torn-WriteFault : (at kept : ℕ) (bytes : List ℕ) (old new : Story) → at + length bytes ≤ length old.now.reads → new ≡ after_write at (length bytes) (splice at (take kept bytes) old.now.reads) old → WriteFault at (length bytes) old new
torn-WriteFault at kept bytes old new fits is = TornWrite (splice at (take kept bytes) old.now.reads) (record {
  size = agrees.size;
  bytes = λ i out. agrees.bytes i (λ covered. ⊎_elim (λ (here : IsIn i (record { start = at; len = length (take kept bytes) })). out (inl (wider i here))) (λ none. none) covered);
}) is
  where
    shorter : length (take kept bytes) ≤ length bytes
    shorter = omega (arith, length-take kept bytes)

    agrees : AgreesBut (record { start = at; len = length (take kept bytes) } ∷ []) old.now.reads (splice at (take kept bytes) old.now.reads)
    agrees = splice-AgreesBut at (take kept bytes) old.now.reads (omega (arith, shorter))

    wider : (i : ℕ) → IsIn i (record { start = at; len = length (take kept bytes) }) → IsIn i (record { start = at; len = length bytes })
    wider i here = (here.0, (let until = here.1 in omega (arith, shorter)))

-- a call that its number or the stop makes fail is one that fails
pub failing_at : (named stopped late : Bool) → (named || stopped) ≡ true → (named || (stopped || late)) ≡ true
failing_at true stopped late is = refl
failing_at false true late is = refl
failing_at false false late is = absurd (cc is)

-- what hasn't stopped at a call had not before it
pub running_before : (stop : Option Stop) (clock : ℕ) → has_stopped stop (clock + 1) ≡ false → has_stopped stop clock ≡ false
running_before None clock running = refl
running_before (Some stop) clock running = grind (arith, nat_tests)

-- a write of which some bytes are stored comes before the disk has stopped
pub running_torn : (stop : Option Stop) (clock count : ℕ) → 0 < torn_len stop clock count → has_stopped stop clock ≡ false
running_torn None clock count some = refl
running_torn (Some stop) clock count some = grind (arith, nat_tests)

pub cond_some : (n : ℕ) (a b : Story) → 0 < n → cond (n == 0) a b ≡ b
cond_some n a b some = grind (arith, nat_tests)
