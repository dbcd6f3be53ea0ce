-- Relations that stay open from one transaction to the next.
use Rattle.std.proofs.Common.{◌≡◌, ℕ, ◌-◌, true, false, cond, List, [], ◌∷◌, length, map, All, Some, option_map, bytes_eq, refl, sym, ap, subst, ◌∙◌}
use Rattle.std.proofs.lemmas.List.Elements.{All-drop, All-head, All-nil, All-tail, All-weaker}
use Rattle.std.proofs.lemmas.Option.{same_Some}
use Rattle.sb_relation.specs.Db.{Name}
use Rattle.sb_log.specs.declared.geometry.Geometry.{Geometry}
use Rattle.sb_registry.specs.Boxes.{Meanings}
use Rattle.sb_drive.specs.Slots.{Slots}
use Rattle.sb_drive.specs.Spaces.{Wanted}
use Rattle.sb_catalog.specs.declared.descriptor.Descriptor.{Descriptor}
use Rattle.sb_catalog.proofs.Described.{one_descriptor}
use Rattle.sb_tables.specs.Tables.{Kept, KeepsTable, Tables, entry_of, kept_at}
use Rattle.sb_tables.specs.OpenRelation.{OpenRelation}
use Rattle.sb_tables.specs.Opened.{IsDurable, IsOpen}
use Rattle.sb_tables.specs.Working.{AreOpened, IsOpened}
use Rattle.sb_tables.proofs.OpeningLemmas.{opened_of}
use Rattle.sb_space.specs.Table.{slots_in}
use Rattle.sb_transactions.specs.Transactions.{MayStayOpen, last_open}

-- ---- nothing is open
pub none_open : (m : Meanings) (opened : List OpenRelation) → opened ≡ [] → All (IsOpen m) opened
none_open m opened none = subst (λ (os : List OpenRelation). All (IsOpen m) os) (sym none) (All-nil (IsOpen m))

pub none_opened : (m : Meanings) (kept : List Kept) (opened : List OpenRelation) → opened ≡ [] → AreOpened m kept opened
none_opened m kept opened none = subst (λ (os : List OpenRelation). AreOpened m kept os) (sym none) (All-nil (IsOpened m kept))

pub MayStayOpen-none : (m : Meanings) (root pages : ℕ) (want : Wanted) (ones : List OpenRelation) → ones ≡ [] → MayStayOpen m root pages want ones
MayStayOpen-none m root pages want ones none = λ kept tables. none_opened m kept ones none

-- ---- the last ones
-- what is so of all is so of those
pub last_all : (P : OpenRelation → Type 0) (ones : List OpenRelation) → All P ones → All P (last_open ones)
last_all P ones all = All-drop P (length ones - 64) ones all

pub AreOpened-last : (m : Meanings) (kept : List Kept) (ones : List OpenRelation) → AreOpened m kept ones → AreOpened m kept (last_open ones)
AreOpened-last m kept ones are = last_all (IsOpened m kept) ones are

-- ---- relations of one catalogue
-- where two lists of relations have the same entries, a name has the same descriptor in both
same_described : (m : Meanings) (s : Slots) (name : Name) (kept other : List Kept) → All (KeepsTable m IsDurable s) kept → All (KeepsTable m IsDurable s) other → map entry_of kept ≡ map entry_of other
    → option_map (λ (k : Kept). k.descriptor) (kept_at kept name) ≡ option_map (λ (k : Kept). k.descriptor) (kept_at other name)
same_described m s name [] [] each others same = refl
same_described m s name [] (o ∷ other) each others same = absurd (cc)
same_described m s name (k ∷ kept) [] each others same = absurd (cc)
same_described m s name (k ∷ kept) (o ∷ other) each others same =
    let entry : entry_of k ≡ entry_of o = cc in
    let named : k.name ≡ o.name = ap (λ (e : Name × List ℕ). e.0) entry in
    let table = All-head (KeepsTable m IsDurable s) k kept each in
    let other_table = All-head (KeepsTable m IsDurable s) o other others in
    let one : k.descriptor ≡ o.descriptor = one_descriptor k.descriptor o.descriptor table.storable other_table.storable (ap (λ (e : Name × List ℕ). e.1) entry) in
    let rest = same_described m s name kept other (All-tail (KeepsTable m IsDurable s) k kept each) (All-tail (KeepsTable m IsDurable s) o other others) (cc) in
    ap (λ (n : Name). option_map (λ (x : Kept). x.descriptor) (cond (bytes_eq n name) (Some k) (kept_at kept name))) named
    ∙ elim (bytes_eq o.name name)
    as (λ b. option_map (λ (x : Kept). x.descriptor) (cond b (Some k) (kept_at kept name)) ≡ option_map (λ (x : Kept). x.descriptor) (cond b (Some o) (kept_at other name))) [
      | true ↦ ap (λ (d : Descriptor). Some d) one
      | false ↦ rest
    ]

-- so what is open over the one is open over the other
pub AreOpened-same : (m : Meanings) (root : ℕ) (s : Slots) (kept other : List Kept) (ones : List OpenRelation) → Tables m IsDurable root s kept → Tables m IsDurable root s other → AreOpened m kept ones
    → AreOpened m other ones
AreOpened-same m root s kept other ones tables others are = All-weaker (IsOpened m kept) (IsOpened m other) there ones are
  where
    same : map entry_of kept ≡ map entry_of other
    same = same_Some (map entry_of kept) (map entry_of other) (sym tables.catalogue ∙ others.catalogue)

    there : (o : OpenRelation) → IsOpened m kept o → IsOpened m other o
    there o is =
        opened_of m other o o.name is.is refl
        (ap (λ (d : Descriptor). Some d) (sym is.same)
        ∙ ap (option_map (λ (k : Kept). k.descriptor)) (sym is.at)
        ∙ same_described m s o.name kept other tables.each others.each same)

-- ---- what may stay open
-- relations that are open over pages
pub MayStayOpen-over : (m : Meanings) (root pages : ℕ) (want : Wanted) (kept : List Kept) (ones : List OpenRelation) → Tables m IsDurable root (slots_in pages want) kept → AreOpened m kept ones
    → MayStayOpen m root pages want ones
MayStayOpen-over m root pages want kept ones tables are = λ other others. AreOpened-same m root (slots_in pages want) kept other ones tables others are

-- a store of the same sizes is as good, and so are the same relations
pub MayStayOpen-as : (m : Meanings) (root : ℕ) (want : Wanted) (g h : Geometry) (ones others : List OpenRelation) → h ≡ g → others ≡ ones
    → MayStayOpen m root g.pages want ones → MayStayOpen m root h.pages want others
MayStayOpen-as m root want g h ones others sizes same stay =
    subst (λ (l : List OpenRelation). MayStayOpen m root h.pages want l) (sym same) (subst (λ (a : Geometry). MayStayOpen m root a.pages want ones) (sym sizes) stay)
