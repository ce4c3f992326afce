-- What is taken and put is taken and put in the pipes of items as in those of words.
use Rattle.std.proofs.Common.{◌≡◌, true, false, not, List, [], ◌∷◌, ◌++◌, drop, map, refl, sym, ap, ◌∙◌}
use Rattle.std.proofs.lemmas.List.{map-append}
use Rattle.sim_3_items.specs.ItemPipes.{ItemPipe, entered, handed}
use Rattle.sim_2_links.specs.Words.{DownWord, UpWord}
use Rattle.sim_2_links.specs.Wires.{Flow, Stop, Wires, down_words, halt, is_flowing, left_down, left_up, send_down, send_up, up_words}
use Rattle.xml_writer.specs.Items.{ItemOut}

-- ---- pipes of items

pub entered_open : (more : List ItemOut) (p : ItemPipe) → p.ended ≡ false → (entered more p).items ≡ p.items ++ more
entered_open more p flows = rw flows refl

pub entered_ended : (more : List ItemOut) (p : ItemPipe) → p.ended ≡ true → entered more p ≡ p
entered_ended more p ended = rw ended refl

-- ---- pipes of words

pub taken_up : {A : Type 0} (rest : List (UpWord A)) (puts : List (DownWord A)) (ws : Wires A) → up_words (send_down puts (left_up rest ws)) ≡ rest
taken_up rest puts (Flow us ds) = refl
taken_up rest puts (Stop us ds lu ld) = refl

pub taken_flowing : {A : Type 0} (rest : List (UpWord A)) (puts : List (DownWord A)) (ws : Wires A) → is_flowing (send_down puts (left_up rest ws)) ≡ is_flowing ws
taken_flowing rest puts (Flow us ds) = refl
taken_flowing rest puts (Stop us ds lu ld) = refl

pub taken_down : {A : Type 0} (rest : List (DownWord A)) (puts : List (UpWord A)) (ws : Wires A) → down_words (send_up puts (left_down rest ws)) ≡ rest
taken_down rest puts (Flow us ds) = refl
taken_down rest puts (Stop us ds lu ld) = refl

pub heard_flowing : {A : Type 0} (rest : List (DownWord A)) (puts : List (UpWord A)) (ws : Wires A) → is_flowing (send_up puts (left_down rest ws)) ≡ is_flowing ws
heard_flowing rest puts (Flow us ds) = refl
heard_flowing rest puts (Stop us ds lu ld) = refl

-- what a server puts behind what it takes
pub put_taken : {A : Type 0} (rest : List (UpWord A)) (puts : List (DownWord A)) (ws : Wires A) → down_words (send_down puts (left_up rest ws)) ≡ down_words (send_down puts ws)
put_taken rest puts (Flow us ds) = refl
put_taken rest puts (Stop us ds lu ld) = refl

pub put_heard : {A : Type 0} (rest : List (DownWord A)) (puts : List (UpWord A)) (ws : Wires A) → up_words (send_up puts (left_down rest ws)) ≡ up_words (send_up puts ws)
put_heard rest puts (Flow us ds) = refl
put_heard rest puts (Stop us ds lu ld) = refl

pub halted_up : {A : Type 0} (ws : Wires A) → up_words (halt ws) ≡ []
halted_up (Flow us ds) = refl
halted_up (Stop us ds lu ld) = refl

pub halted_down : {A : Type 0} (ws : Wires A) → down_words (halt ws) ≡ down_words ws
halted_down (Flow us ds) = refl
halted_down (Stop us ds lu ld) = refl

pub halted : {A : Type 0} (ws : Wires A) → is_flowing (halt ws) ≡ false
halted (Flow us ds) = refl
halted (Stop us ds lu ld) = refl

-- ---- the items of words

pub handed_words : {W : Type 0} (f : W → ItemOut) (word : W) (rest : List W) (p : ItemPipe) → p.items ≡ map f (word ∷ rest) → (handed p).items ≡ map f rest
handed_words f word rest p items = ap (drop 1) items

-- what the server puts: into a pipe that has ended nothing enters
pub put_words : {A : Type 0} (g : DownWord A → ItemOut) (puts : List (DownWord A)) (ws : Wires A) (p : ItemPipe) → p.items ≡ map g (down_words ws) → p.ended ≡ not (is_flowing ws)
    → (entered (map g puts) p).items ≡ map g (down_words (send_down puts ws))
put_words g puts (Flow us ds) p items ended = entered_open (map g puts) p ended ∙ ap (λ l. l ++ map g puts) items ∙ sym (map-append g ds puts)
put_words g puts (Stop us ds lu ld) p items ended = ap (λ (q : ItemPipe). q.items) (entered_ended (map g puts) p ended) ∙ items

-- and the client
pub said_words : {A : Type 0} (f : UpWord A → ItemOut) (puts : List (UpWord A)) (ws : Wires A) (p : ItemPipe) → p.items ≡ map f (up_words ws) → p.ended ≡ not (is_flowing ws)
    → (entered (map f puts) p).items ≡ map f (up_words (send_up puts ws))
said_words f puts (Flow us ds) p items ended = entered_open (map f puts) p ended ∙ ap (λ l. l ++ map f puts) items ∙ sym (map-append f us puts)
said_words f puts (Stop us ds lu ld) p items ended = ap (λ (q : ItemPipe). q.items) (entered_ended (map f puts) p ended) ∙ items
