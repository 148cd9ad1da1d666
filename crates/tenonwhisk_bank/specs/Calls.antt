-- Sound banks for hosts: each answer as the fields that a host reads. Assumes nothing.
use Rattle.std.specs.Prelude.{ℕ, false, Result, Ok, Err}
use Rattle.bank.specs.declared.Entry.{Entry}
use Rattle.bank.specs.declared.Damage.{Damage}
use Rattle.bank.specs.declared.Damage.TheVariants.{InHeader, AtEntry}
use Rattle.bank.specs.declared.Refusal.{Refusal}
use Rattle.bank.specs.declared.Found.{Found as Sound}
use Rattle.bank.specs.Bank.{number_of}
use Rattle.bank_write.specs.declared.Refusal.{Refusal as WriteRefusal}
use Rattle.bank_write.specs.Write.{number_of as write_number_of}
use Rattle.tenonwhisk_bank.specs.declared.Checked.{Checked}
use Rattle.tenonwhisk_bank.specs.declared.Listed.{Listed}
use Rattle.tenonwhisk_bank.specs.declared.Found.{Found}
use Rattle.tenonwhisk_bank.specs.declared.Written.{Written}

-- "9 either bank damaged"; the place is 0 for nowhere, 1 for the header and 2 for an entry
abbrev pub checked_of : Result (Unit {0}) Damage → Checked
checked_of (Ok u) = record { number = 0; place = 0; entry = 0 }
checked_of (Err InHeader) = record { number = 9; place = 1; entry = 0 }
checked_of (Err (AtEntry n)) = record { number = 9; place = 2; entry = n }

-- ---- a refusal's number, and zeros

abbrev pub no_fields : ℕ → Listed
no_fields number = record { number = number; kind = 0; offset = 0; count = 0 }

abbrev pub listed_of : Result Entry Refusal → Listed
listed_of (Ok e) = record { number = 0; kind = e.kind; offset = e.offset; count = e.count }
listed_of (Err r) = no_fields (number_of r)

abbrev pub nothing : ℕ → Found
nothing number = record { number = number; house = false; entry = 0; offset = 0; length = 0 }

abbrev pub found_record : Result Sound Refusal → Found
found_record (Ok f) = record { number = 0; house = f.house; entry = f.entry; offset = f.offset; length = f.length }
found_record (Err r) = nothing (number_of r)

abbrev pub written_record : Result ℕ WriteRefusal → Written
written_record (Ok n) = record { number = 0; length = n }
written_record (Err r) = record { number = write_number_of r; length = 0 }
