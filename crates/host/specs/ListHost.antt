-- The maps of the list host: the first entry that matches, in lists that are handed in.
use Rattle.std.specs.Prelude.{ℕ, Bool, ◌&&◌, List, length, Option, nat_le, Float}
use Rattle.ecma.specs.Number.{number_same_value}
use Rattle.host.specs.declared.list.NameEntry.{NameEntry}
use Rattle.host.specs.declared.list.NumberEntry.{NumberEntry}
use Rattle.host.specs.declared.list.TextEntry.{TextEntry}
use Rattle.std.specs.List.{find}
use Rattle.std.specs.Option.{option_map}
use Rattle.std.specs.Str.{bytes_eq, is_utf8}

-- whether bytes can be the text of a number: at most 32, and UTF-8
abbrev pub can_be_number_text : List ℕ → Bool
can_be_number_text t = nat_le (length t) 32 && is_utf8 t

-- Numbers match by SameValue. An entry whose text cannot be that of a number is passed over.
abbrev pub listed_text : List TextEntry → Float → Option (List ℕ)
listed_text es x = option_map (λ e. e.text.now) (find (λ e. number_same_value x e.number && can_be_number_text e.text.now) es)

abbrev pub listed_number : List NumberEntry → List ℕ → Option Float
listed_number es t = option_map (λ e. e.number) (find (λ e. bytes_eq t e.text.now) es)

abbrev pub listed_name : List NameEntry → List ℕ → Option Bool
listed_name es t = option_map (λ e. e.valid) (find (λ e. bytes_eq t e.text.now) es)
