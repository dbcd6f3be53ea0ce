-- Worked sizes of an owner table, and worked owners.
use Rattle.std.proofs.Common.{◌≡◌, refl}
use Rattle.sb_recover.specs.FirstPages.{table_len, first_owner}

pub least : table_len 64 ≡ 1
least = refl

pub full : table_len 2048 ≡ 1
full = refl

pub one_more : table_len 2049 ≡ 2
one_more = refl

pub most : table_len 65536 ≡ 32
most = refl

-- the last page of a table of two, the catalogue behind it, and a page that no one owns
pub table_page : first_owner 2049 1 ≡ 1
table_page = refl

pub catalogue_page : first_owner 2049 2 ≡ 2
catalogue_page = refl

pub free_page : first_owner 2049 3 ≡ 0
free_page = refl
