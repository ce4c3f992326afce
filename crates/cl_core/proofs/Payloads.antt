-- A payload of one element, and of none or more.
use Rattle.std.proofs.Common.{◌≡◌, Bool, false, List, [], ◌∷◌, Option, None, codes, ap, refl, sym, ◌∙◌}
use Rattle.std.specs.Result.{result_ok}
use Rattle.cl_core.specs.PageRows.{is_ping, only_fin}
use Rattle.im_mam.specs.Readings.{fin_read}
use Rattle.mam_pages.specs.declared.fin.Fin.{Fin}
use Rattle.im_payload.specs.Names.{pings}
use Rattle.xml_trees.specs.Readers.{is_named}
use Rattle.xml_trees.specs.Trees.{Elem}

pub ping_alone : (all rest : List Elem) (e : Elem) → all ≡ e ∷ rest → rest ≡ [] → is_named pings (codes "ping") e ≡ is_ping all
ping_alone all rest e is none = sym (ap is_ping (is ∙ ap (λ more. e ∷ more) none))

pub ping_more : (all rest more : List Elem) (e f : Elem) → all ≡ e ∷ rest → rest ≡ f ∷ more → false ≡ is_ping all
ping_more all rest more e f is some = sym (ap is_ping (is ∙ ap (λ others. e ∷ others) some))

pub ping_none : (all : List Elem) → all ≡ [] → false ≡ is_ping all
ping_none all none = sym (ap is_ping none)

pub fin_alone : (all rest : List Elem) (e : Elem) → all ≡ e ∷ rest → rest ≡ [] → result_ok (fin_read e) ≡ only_fin all
fin_alone all rest e is none = sym (ap only_fin (is ∙ ap (λ more. e ∷ more) none))

pub fin_more : (all rest more : List Elem) (e f : Elem) → all ≡ e ∷ rest → rest ≡ f ∷ more → None ≡ only_fin all
fin_more all rest more e f is some = sym (ap only_fin (is ∙ ap (λ others. e ∷ others) some))

pub fin_none : (all : List Elem) → all ≡ [] → None ≡ only_fin all
fin_none all none = sym (ap only_fin none)
