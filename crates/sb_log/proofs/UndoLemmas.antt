-- A change is undone among those of other transactions.
use Rattle.std.proofs.Common.{◌≡◌, ◌⊎◌, inl, inr, ⊎_elim, ℕ, ◌+◌, ◌≤◌, Bool, true, List, [], ◌∷◌, ◌++◌, length, take, drop, refl, sym, ◌∙◌, ap, subst, arith}
use Rattle.sb_bytes.specs.Bytes.{splice}
use Rattle.sb_bytes.proofs.BytesLaws.{length-splice}
use Rattle.sb_disk.proofs.RangeLemmas.{splice-AgreesBut, AgreesBut-slice}
use Rattle.sb_log.specs.Records.{Change}
use Rattle.sb_log.specs.Standing.{NoneOf}
use Rattle.sb_log.specs.Restored.{over}
use Rattle.sb_log.specs.Undoing.{AreApart, IsClearOf, IsBeneath, AreUndoable, IsFree}
use Rattle.sb_log.proofs.SpliceLemmas.{splice-swap, splice-back, Sure-apart}

-- each of the changes is elsewhere than this range
abbrev pub AreElsewhere : ℕ → ℕ → List Change → Type 0
AreElsewhere at n [] = Unit {0}
AreElsewhere at n (c ∷ cs) = ((at + n ≤ c.offset) ⊎ (c.offset + length c.after ≤ at)) × AreElsewhere at n cs

pub AreElsewhere-clear : (c : Change) (cs : List Change) → IsClearOf c cs → NoneOf c.tx cs → AreElsewhere c.offset (length c.after) cs
AreElsewhere-clear c [] clear none = tt
AreElsewhere-clear c (d ∷ ds) clear none = (⊎_elim (λ own. absurd (none.0 own)) (λ (apart : AreApart c d). apart) clear.0, AreElsewhere-clear c ds clear.1 none.1)

-- a range is written before such changes, or behind them
pub over-splice : (active : ℕ → Bool) (at : ℕ) (bytes : List ℕ) (cs : List Change) (size : ℕ) (x y : List ℕ) → length x ≡ size → at + length bytes ≤ size → AreUndoable active size y cs → AreElsewhere at (length bytes) cs
    → splice at bytes (over cs x) ≡ over cs (splice at bytes x)
over-splice active at bytes [] size x y is fits fine off = refl
over-splice active at bytes (c ∷ cs) size x y is fits fine off =
    let fits_c = fine.0 in
    let long : length (splice c.offset c.after x) ≡ size = length-splice c.offset c.after x (omega arith) ∙ is in
    over-splice active at bytes cs size (splice c.offset c.after x) (splice c.offset c.after y) long fits fine.2 off.1
    ∙ ap (λ (z : List ℕ). over cs z) (splice-swap at bytes c.offset c.after x (omega arith) (omega arith) off.0)

-- such changes can be undone also where the range wasn't written
pub AreUndoable-without : (active : ℕ → Bool) (at : ℕ) (bytes : List ℕ) (cs : List Change) (size : ℕ) (x : List ℕ) → length x ≡ size → at + length bytes ≤ size → AreUndoable active size (splice at bytes x) cs → AreElsewhere at (length bytes) cs → AreUndoable active size x cs
AreUndoable-without active at bytes [] size x is fits fine off = tt
AreUndoable-without active at bytes (c ∷ cs) size x is fits fine off =
    let fits_c = fine.0 in
    let long : length (splice c.offset c.after x) ≡ size = length-splice c.offset c.after x (omega arith) ∙ is in
    let same : take (length c.after) (drop c.offset x) ≡ take (length c.after) (drop c.offset (splice at bytes x)) = AgreesBut-slice (record { start = at; len = length bytes } ∷ []) x (splice at bytes x) c.offset (length c.after) (splice-AgreesBut at bytes x (omega arith))
    (Sure-apart c.offset (length c.after) at (length bytes) (⊎_elim (λ l. inr l) (λ l. inl l) off.0)) in
    let swapped : splice c.offset c.after (splice at bytes x) ≡ splice at bytes (splice c.offset c.after x) = sym (splice-swap at bytes c.offset c.after x (omega arith) (omega arith) off.0) in (
      fine.0,
      (λ is_active. let f = fine.1 is_active in (record { size = f.0.size; is = f.0.is ∙ sym same }, f.1)),
      AreUndoable-without active at bytes cs size (splice c.offset c.after x) long fits (subst (λ (z : List ℕ). AreUndoable active size z cs) swapped fine.2) off.1,
    )

-- The last change of a transaction is undone among those of others: all stands as if it had never been made.
pub over-undo : (active : ℕ → Bool) (a : List Change) (c : Change) (b : List Change) (size : ℕ) (x : List ℕ) → length x ≡ size → active c.tx ≡ true → NoneOf c.tx b → AreUndoable active size x (a ++ c ∷ b)
    → splice c.offset c.before (over (a ++ c ∷ b) x) ≡ over (a ++ b) x
over-undo active [] c b size x is is_active none fine =
    let fits = fine.0 in
    let f = fine.1 is_active in
    let s = f.0.size in
    let long : length (splice c.offset c.after x) ≡ size = length-splice c.offset c.after x (omega arith) ∙ is in
    over-splice active c.offset c.before b size (splice c.offset c.after x) (splice c.offset c.after x) long (omega arith) fine.2
    (subst (λ (n : ℕ). AreElsewhere c.offset n b) (sym s) (AreElsewhere-clear c b f.1 none))
    ∙ ap (λ (z : List ℕ). over b z) (splice-back c.offset c.after c.before x (omega arith) s f.0.is)
over-undo active (k ∷ a) c b size x is is_active none fine =
    let fits = fine.0 in
    over-undo active a c b size (splice k.offset k.after x) (length-splice k.offset k.after x (omega arith) ∙ is) is_active none fine.2

IsClearOf-less : (k : Change) (a : List Change) (c : Change) (b : List Change) → IsClearOf k (a ++ c ∷ b) → IsClearOf k (a ++ b)
IsClearOf-less k [] c b clear = clear.1
IsClearOf-less k (d ∷ a) c b clear = (clear.0, IsClearOf-less k a c b clear.1)

-- and the others can be undone still
pub AreUndoable-less : (active : ℕ → Bool) (a : List Change) (c : Change) (b : List Change) (size : ℕ) (x : List ℕ) → length x ≡ size → active c.tx ≡ true → NoneOf c.tx b → AreUndoable active size x (a ++ c ∷ b) → AreUndoable active size x (a ++ b)
AreUndoable-less active [] c b size x is is_active none fine =
    let fits = fine.0 in
    AreUndoable-without active c.offset c.after b size x is (omega arith) fine.2 (AreElsewhere-clear c b (fine.1 is_active).1 none)
AreUndoable-less active (k ∷ a) c b size x is is_active none fine =
    let fits = fine.0 in (
      fine.0,
      (λ k_out. ((fine.1 k_out).0, IsClearOf-less k a c b (fine.1 k_out).1)),
      AreUndoable-less active a c b size (splice k.offset k.after x) (length-splice k.offset k.after x (omega arith) ∙ is) is_active none fine.2,
    )

IsClearOf-more : (k : Change) (cs : List Change) (c : Change) → IsClearOf k cs → (c.tx ≡ k.tx) ⊎ AreApart k c → IsClearOf k (cs ++ c ∷ [])
IsClearOf-more k [] c clear apart = (apart, tt)
IsClearOf-more k (d ∷ cs) c clear apart = (clear.0, IsClearOf-more k cs c clear.1 apart)

-- a change more
pub AreUndoable-more : (active : ℕ → Bool) (cs : List Change) (c : Change) (size : ℕ) (x : List ℕ) → c.offset + length c.after ≤ size → IsBeneath (over cs x) c → IsFree active c cs → AreUndoable active size x cs → AreUndoable active size x (cs ++ c ∷ [])
AreUndoable-more active [] c size x fits beneath free fine = (fits, (λ is_active. (beneath, tt)), tt)
AreUndoable-more active (k ∷ cs) c size x fits beneath free fine = (
  fine.0,
  (λ k_out. ((fine.1 k_out).0, IsClearOf-more k cs c (fine.1 k_out).1 (free.0 k_out))),
  AreUndoable-more active cs c size (splice k.offset k.after x) fits beneath free.1 fine.2,
)

-- fewer transactions are active
pub AreUndoable-fewer : (active now : ℕ → Bool) (cs : List Change) (size : ℕ) (x : List ℕ) → ((tx : ℕ) → now tx ≡ true → active tx ≡ true) → AreUndoable active size x cs → AreUndoable now size x cs
AreUndoable-fewer active now [] size x less fine = tt
AreUndoable-fewer active now (c ∷ cs) size x less fine = (fine.0, (λ is_active. fine.1 (less c.tx is_active)), AreUndoable-fewer active now cs size (splice c.offset c.after x) less fine.2)

-- one more is active, which has no change there
pub AreUndoable-also : (active now : ℕ → Bool) (tx : ℕ) (cs : List Change) (size : ℕ) (x : List ℕ) → ((t : ℕ) → (t ≡ tx → ⊥) → now t ≡ true → active t ≡ true) → NoneOf tx cs → AreUndoable active size x cs → AreUndoable now size x cs
AreUndoable-also active now tx [] size x more none fine = tt
AreUndoable-also active now tx (c ∷ cs) size x more none fine = (fine.0, (λ is_active. fine.1 (more c.tx none.0 is_active)), AreUndoable-also active now tx cs size (splice c.offset c.after x) more none.1 fine.2)

pub length-over : (active : ℕ → Bool) (cs : List Change) (size : ℕ) (x y : List ℕ) → length x ≡ size → AreUndoable active size y cs → length (over cs x) ≡ size
length-over active [] size x y is fine = is
length-over active (c ∷ cs) size x y is fine = let fits = fine.0 in length-over active cs size (splice c.offset c.after x) (splice c.offset c.after y) (length-splice c.offset c.after x (omega arith) ∙ is) fine.2
