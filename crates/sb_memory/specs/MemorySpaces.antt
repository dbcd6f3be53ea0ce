-- A memory as a space of pages.
use Rattle.std.specs.Prelude.{◌≡◌, ◌≢◌, ℕ, ◌+◌, ◌<◌, ◌≤◌, ◌++◌, nat_lt, Bool, true, false, [], List, length, take, refl}
use Rattle.std.proofs.Common.{◌∙◌, sym, ap, arith, append_assoc}
use Rattle.std.proofs.lemmas.Bool.{ltb-true, ltb-false}
use Rattle.std.proofs.lemmas.List.{append-nil}
use Rattle.sb_drive.specs.declared.space.SpaceFault.{SpaceFault}
use Rattle.sb_drive.specs.declared.space.SpaceFault.TheVariants.{TempFull, NoMemory}
use Rattle.sb_drive.specs.Slots.{AreWhole, Slot, Slots}
use Rattle.sb_memory.specs.Contents.{Contents, Grows, slots, stack}

-- these are its pages, at most 16,384, each of them whole
pub record HasPages (s : Slots) (m : Contents) : Type 0 where
  pub are : s ≡ slots m.now
  pub whole : AreWhole s
  pub few : (n : ℕ) → 16384 ≤ n → (s n).0 ≡ 0

-- each write that stood stands, and all is as it was where no change is made
pub record IsChanged (changes : ℕ) (old new : Contents) : Type 0 where
  pub grows : Grows old new
  pub none : changes ≡ 0 → new ≡ old

-- a memory refuses nothing but for want of a page or of memory
unfoldable pub IsMemoryFault : SpaceFault → Type 0
IsMemoryFault (TempFull used total) = Unit {0}
IsMemoryFault NoMemory = Unit {0}
IsMemoryFault e = ⊥

-- going back to the writes that stood before some calls gives the memory of then
abbrev pub DrivenGoesBack : Type 0
DrivenGoesBack = (k : ℕ) (a b c : Contents) → IsChanged k a b → stack c ≡ take (length a.past + 1) (stack b) → c ≡ a

-- and these still stand
abbrev pub DrivenKeepsWrites : Type 0
DrivenKeepsWrites = (k : ℕ) (a b : Contents) → IsChanged k a b → length a.past ≤ length b.past

-- ---- laws
pub Grows-same : (m : Contents) → Grows m m
Grows-same m = ([], sym (append-nil (stack m)))

pub Grows-on : (a b c : Contents) → Grows a b → Grows b c → Grows a c
Grows-on a b c first second = (
  first.0 ++ second.0,
  second.1 ∙ ap (λ (l : List (List Slot)). l ++ second.0) first.1 ∙ append_assoc (stack a) first.0 second.0,
)

pub IsChanged-same : (m : Contents) → IsChanged 0 m m
IsChanged-same m = record { grows = Grows-same m; none = λ z. refl }

pub IsChanged-on : (k l : ℕ) (a b c : Contents) → IsChanged k a b → IsChanged l b c → IsChanged (k + l) a c
IsChanged-on k l a b c first second = record {
  grows = Grows-on a b c first.grows second.grows;
  none = λ z. second.none (omega (arith, z)) ∙ first.none (omega (arith, z));
}

pub HasPages-few : (s : Slots) (m : Contents) → HasPages s m → (n : ℕ) → 65536 ≤ n → (s n).0 ≡ 0
HasPages-few s m has n far = has.few n (omega (arith, far))

-- every page is one of so many
pub HasPages-tabled : (s : Slots) (m : Contents) → HasPages s m → (n : ℕ) → (s n).0 ≢ 0 → (s n).1 ≡ [] → n < 16384
HasPages-tabled s m has n some none = by (nat_lt n 16384) refl
  where
    by : (b : Bool) → nat_lt n 16384 ≡ b → n < 16384
    by true low = ltb-true n 16384 low
    by false high = absurd (some (has.few n (ltb-false n 16384 high)))
