-- What adding a text answers. n rows and b bytes are in use, of R and B that there is room for.
use Rattle.std.specs.Prelude.{◌≡◌, ℕ, ◌+◌, ◌<◌, ◌≤◌, ◌⊎◌, List, length, Ok, Err, IsUtf8, Result}
use Rattle.table.specs.declared.id.Id.{Id}
use Rattle.table.specs.declared.id.Texts.{Texts}
use Rattle.table.specs.declared.refusal.Layer.TheVariants as layer
use Rattle.table.specs.declared.refusal.Refusal.{Refusal}
use Rattle.table.specs.declared.refusal.Site.TheVariants as site
use Rattle.table.specs.Refusals.{Refuses}

-- refused if no row is free, else if it is not UTF-8, else if its bytes do not fit
abbrev pub Added : (n R b B : ℕ) → List ℕ → Result (Id Texts) Refusal → Type 0
Added n R b B t (Ok id) = (n < R) × IsUtf8 t × (b + length t ≤ B) × (id.number ≡ n)
Added n R b B t (Err e) =
    ((R ≤ n) × Refuses 1 layer.Text (site.Text n) e)
    ⊎ (((n < R) × (IsUtf8 t → ⊥) × Refuses 2 layer.Text (site.Text n) e)
    ⊎ ((n < R) × IsUtf8 t × (B < b + length t) × Refuses 3 layer.Text (site.Text n) e))
