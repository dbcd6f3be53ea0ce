-- Steps of a scan.
use Rattle.std.specs.Prelude.{◌≡◌, ◌≢◌, ◌⊎◌, ℕ, ◌<◌, true, List, length, Option, Some, None, Result, Ok, Err}
use Rattle.std.specs.List.{find as first}
use Rattle.sb_value.specs.declared.schema.Column.{Column}
use Rattle.sb_codec.specs.Tuples.{tuple_spelling}
use Rattle.sb_relation.specs.Db.{Key, Row}
use Rattle.sb_relation.specs.Lawful.{IsRow}
use Rattle.sb_node.specs.Entries.{Entry}
use Rattle.sb_node.specs.Page.{node_in}
use Rattle.sb_forms.specs.HeapPages.{record_key}
use Rattle.sb_ctx.specs.View.{View, page_of, next_of}
use Rattle.sb_ctx.specs.MethodAnswers.{is_above}
use Rattle.sb_heap.specs.Answered.{IsLowPage}
use Rattle.sb_heap.specs.Broken.{is_amiss}
use Rattle.sb_heap.specs.Held.{IsBare, IsHeapPage, OwnAmiss}
use Rattle.sb_node.specs.declared.head.Head.{Head}
use Rattle.sb_heap.specs.declared.stop.Stop.{Stop}
use Rattle.sb_heap.specs.declared.stop.Stop.TheVariants.{After, Broken, NoMemory}

-- the next page, or it isn't known
abbrev pub IsAfter : View → Option ℕ → Result (Option ℕ) Stop → Type 0
IsAfter c low (Ok next) = next_of c low ≡ Some next
IsAfter c low (Err (After n)) = (n ≡ low) × (next_of c low ≡ None)
IsAfter c low (Err s) = ⊥

-- the entry is the first of a page under a key above a low one
abbrev pub first_above : ℕ → Option Key → List Entry → Option Entry
first_above page low es = first (λ e. is_above low (record_key page e.0)) es

-- a held page of the heap
pub record IsOwn (c : View) (page : ℕ) : Type 0 where
  pub bytes : List ℕ
  pub head : Head
  pub some : page ≢ 0
  pub low : page < 65536
  pub is : IsHeapPage (page_of c page) bytes head

-- its first row above a low key
pub record IsScanned (c : View) (schema : List Column) (page : ℕ) (low : Option Key) (key : Key) (row : Row) : Type 0 where
  pub own : IsOwn c page
  pub slot : List ℕ
  pub value : List ℕ
  pub entry : first_above page low (node_in own.bytes).entries ≡ Some (slot, value)
  pub slot_long : length slot ≡ 2
  pub key_is : key ≡ record_key page slot
  pub row_is : IsRow schema row
  pub value_is : value ≡ tuple_spelling row

-- it has none
pub record IsPassed (c : View) (page : ℕ) (low : Option Key) : Type 0 where
  pub own : IsOwn c page
  pub none : first_above page low (node_in own.bytes).entries ≡ None

-- an entry of it is no row under a slot
pub record IsMisspelled (c : View) (schema : List Column) (page : ℕ) : Type 0 where
  pub own : IsOwn c page
  pub amiss : is_amiss schema (page_of c page) ≡ true

abbrev pub ScanStops : View → List Column → ℕ → Stop → Type 0
ScanStops c schema page NoMemory = Unit {0}
ScanStops c schema page (Broken n) = OwnAmiss c page (Broken n) ⊎ ((n ≡ page) × IsMisspelled c schema page)
ScanStops c schema page s = OwnAmiss c page s

abbrev pub ScansFrom : View → List Column → ℕ → Option Key → Result (Option (Key × Row)) Stop → Type 0
ScansFrom c schema page low (Ok (Some found)) = IsScanned c schema page low found.0 found.1
ScansFrom c schema page low (Ok None) = IsBare c page ⊎ IsPassed c page low
ScansFrom c schema page low (Err s) = ScanStops c schema page s

-- no row above a low key is on its page, and no page is looked at where there is no such key
abbrev pub IsPassedLow : View → Option Key → Option ℕ → Type 0
IsPassedLow c None page = page ≡ None
IsPassedLow c (Some low) page = (q : ℕ) × (page ≡ Some q) × IsLowPage low q × (IsBare c q ⊎ IsPassed c q (Some low))
