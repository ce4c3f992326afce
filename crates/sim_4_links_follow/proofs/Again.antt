-- What the client sends again behind a resumption.
use Rattle.std.proofs.Common.{◌≡◌, List, [], ◌∷◌, ◌++◌, map, refl, ap}
use Rattle.cl_handlers.specs.SessionRows.{resent}
use Rattle.cl_handlers.specs.Speech.{in_items, spread_all}
use Rattle.sim_3_items.specs.Identities.{Identity, Login}
use Rattle.sim_3_items.specs.WordItems.{up_item}
use Rattle.sim_2_links.specs.SessionMoves.{again}
use Rattle.sim_2_links.specs.Words.{Req, St, Up, UpWord, up_stanzas}
use Rattle.im_replies.specs.Management.{request_item}
use Rattle.xml_writer.specs.Items.{ItemOut}

abbrev stanzas_and : List ItemOut → List (UpWord ItemOut)
stanzas_and zs = map Up (map St zs) ++ Up Req ∷ []

spread_so : (who : Identity) (x : Login) (zs : List ItemOut) → spread_all in_items zs ++ request_item ∷ [] ≡ map (up_item who x) (stanzas_and zs)
spread_so who x [] = refl
spread_so who x (z ∷ zs) = ap (λ l. z ∷ l) (spread_so who x zs)

pub again_items : (who : Identity) (x : Login) (zs : List ItemOut) → resent in_items zs ≡ map (up_item who x) (again zs)
again_items who x [] = refl
again_items who x (z ∷ zs) = ap (λ l. z ∷ l) (spread_so who x zs)

stanzas_so : (zs : List ItemOut) → up_stanzas (stanzas_and zs) ≡ zs
stanzas_so [] = refl
stanzas_so (z ∷ zs) = ap (λ l. z ∷ l) (stanzas_so zs)

pub again_stanzas : (zs : List ItemOut) → up_stanzas (again zs) ≡ zs
again_stanzas [] = refl
again_stanzas (z ∷ zs) = ap (λ l. z ∷ l) (stanzas_so zs)
