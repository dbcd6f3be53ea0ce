-- What an image restores is one.
use Rattle.std.proofs.Common.{◌≡◌, inl, inr, ⊎_elim, ℕ, zero, suc, ◌^◌, ◌<◌, false, List, [], ◌∷◌, length, get_or, refl, sym, ◌∙◌, ap, subst, arith}
use Rattle.sb_journal.specs.Chunks.{ReadsAs}
use Rattle.sb_journal.proofs.OneReading.{one_reading}
use Rattle.sb_log.specs.declared.geometry.Geometry.{Geometry}
use Rattle.sb_log.specs.Records.{Record, AreRecords, Spells, HasRecords, IsBadAt}
use Rattle.sb_log.specs.Restored.{restored, imaged}
use Rattle.sb_log.proofs.RowLemmas.{Spells-one, AreRecords-parts, IsBadAt-no_row}
use Rattle.sb_log.proofs.ImageLemmas.{restored-not_imaged}
use Rattle.sb_images.specs.Layout.{gates_of, log_of, page_at, IsGeometry, IsStoreOf}
use Rattle.sb_images.specs.Images.{Logs, Restores, IsOldOrNew}
use Rattle.sb_images.proofs.LayoutLemmas.{one_geometry}

-- the log's region is shorter than a journal's may be
short_log : (g : Geometry) → IsGeometry g → g.log < 2 ^ 32
short_log g sizes = let most = sizes.log.1 in omega arith

-- an image has one row of records
pub Logs-one : (g : Geometry) (image : List ℕ) (recs : List Record) (chunks : List (List ℕ)) (more : List Record) → IsGeometry g → Logs g image recs → ReadsAs (gates_of g) (log_of g) image chunks → AreRecords more → Spells chunks more → more ≡ recs
Logs-one g image recs chunks more sizes logs reads all spells =
    let same : chunks ≡ logs.chunks = one_reading (gates_of g) (log_of g) image chunks logs.chunks (short_log g sizes) reads logs.reads in
    Spells-one logs.chunks more recs all logs.sound (subst (λ (cs : List (List ℕ)). Spells cs more) same spells) logs.spells

same_geometry : (g : Geometry) (P Q : ℕ → List ℕ) (image : List ℕ) → Restores g P image → Restores g Q image → (p : ℕ) → p < g.pages → P p ≡ Q p
same_geometry g P Q image first second p lt =
    let recs : first.recs ≡ second.recs = Logs-one g image second.recs first.logs.chunks first.recs first.store.sizes second.logs first.logs.reads first.logs.sound first.logs.spells in
    sym (first.each p lt) ∙ ap (λ (l : List Record). restored l p (page_at g p image)) recs ∙ second.each p lt

-- so what two say of a page is the same
pub Restores-one : (g h : Geometry) (P Q : ℕ → List ℕ) (image : List ℕ) → Restores g P image → Restores h Q image → (p : ℕ) → p < g.pages → P p ≡ Q p
Restores-one g h P Q image first second p lt =
    same_geometry g P Q image first (subst (λ (k : Geometry). Restores k Q image) (sym (one_geometry g h image first.store second.store)) second) p lt

-- pages that are the same are restored alike
pub Restores-as : (g : Geometry) (P Q : ℕ → List ℕ) (image : List ℕ) → ((p : ℕ) → p < g.pages → P p ≡ Q p) → Restores g P image → Restores g Q image
Restores-as g P Q image same restores =
    record { recs = restores.recs; store = restores.store; logs = restores.logs; covered = restores.covered; each = λ p lt. restores.each p lt ∙ same p lt }

pub IsOldOrNew-as : (g : Geometry) (old new then : ℕ → List ℕ) (image : List ℕ) → ((p : ℕ) → p < g.pages → new p ≡ then p) → IsOldOrNew g old new image → IsOldOrNew g old then image
IsOldOrNew-as g old new then image same is = ⊎_elim (λ (o : Restores g old image). inl o) (λ (n : Restores g new image). inr (Restores-as g new then image same n)) is

-- where nothing is logged, the pages are those of the image
pub Restores-empty : (g : Geometry) (P : ℕ → List ℕ) (image : List ℕ) → IsStoreOf g image → ReadsAs (gates_of g) (log_of g) image [] → ((p : ℕ) → p < g.pages → page_at g p image ≡ P p) → Restores g P image
Restores-empty g P image store reads same = record {
  recs = [];
  store = store;
  logs = record { chunks = []; reads = reads; spells = refl; sound = tt };
  covered = tt;
  each = same;
}

-- and so it is where the first gate is closed
pub Restores-shut : (g : Geometry) (image : List ℕ) → IsStoreOf g image → ¬ (get_or image 4096 0 ≡ 165) → Restores g (λ p. page_at g p image) image
Restores-shut g image store shut = Restores-empty g (λ p. page_at g p image) image store (λ below. shut) (λ p lt. refl)

-- a page without an Image is in the image as it is restored
pub page_at-not_imaged : (g : Geometry) (P : ℕ → List ℕ) (image : List ℕ) (restores : Restores g P image) (p : ℕ) → p < g.pages → imaged restores.recs p ≡ false → page_at g p image ≡ P p
page_at-not_imaged g P image restores p lt is = sym (restored-not_imaged restores.recs p (page_at g p image) restores.covered is) ∙ restores.each p lt

-- ---- no chunk of such an image is bad
-- each chunk is a row of records
pub Spells-row : (chunks : List (List ℕ)) (recs : List Record) → AreRecords recs → Spells chunks recs → (i : ℕ) → i < length chunks → (n : ℕ) × HasRecords (get_or chunks i []) n
Spells-row [] recs all spells i below = absurd (omega arith)
Spells-row (chunk ∷ chunks) recs all spells zero below =
    let parts = AreRecords-parts spells.0 spells.1 (subst (λ (l : List Record). AreRecords l) spells.2 all) in
    (length spells.0, record { recs = spells.0; sound = parts.0; whole = spells.3; count = refl })
Spells-row (chunk ∷ chunks) recs all spells (suc i) below =
    let parts = AreRecords-parts spells.0 spells.1 (subst (λ (l : List Record). AreRecords l) spells.2 all) in
    Spells-row chunks spells.1 parts.1 spells.4 i (omega arith)

pub Restores-not_bad : (g : Geometry) (P : ℕ → List ℕ) (image : List ℕ) (chunks : List (List ℕ)) (i at : ℕ) → Restores g P image → ReadsAs (gates_of g) (log_of g) image chunks → i < length chunks → ¬ IsBadAt (get_or chunks i []) at
Restores-not_bad g P image chunks i at restores reads below bad =
    let same : restores.logs.chunks ≡ chunks = one_reading (gates_of g) (log_of g) image restores.logs.chunks chunks (short_log g restores.store.sizes) restores.logs.reads reads in
    let row = Spells-row chunks restores.recs restores.logs.sound (subst (λ (cs : List (List ℕ)). Spells cs restores.recs) same restores.logs.spells) i below in
    IsBadAt-no_row (get_or chunks i []) at row.0 bad row.1
