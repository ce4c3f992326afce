-- A client takes the results of its open page, and the end.
use Rattle.std.proofs.Common.{◌≡◌, ℕ, suc, ◌+◌, ◌<◌, ◌≤◌, true, false, List, [], ◌∷◌, ◌++◌, Some, None, Ok, length, map, codes, refl, sym, ap, subst, ◌∙◌, arith, append_assoc, append-nil, if◌then◌else◌}
use Rattle.std.proofs.lemmas.Bool.{lt-leb}
use Rattle.std.specs.List.{AllByRecursion}
use Rattle.std.specs.Option.{option_map}
use Rattle.std.specs.Str.{bytes_eq}
use Rattle.cl_core.specs.PageRows.{iq_row}
use Rattle.cl_core.specs.Steps.{connected_step, element_row, handles, item_step, online_in, stanza_row}
use Rattle.cl_handlers.specs.Clients.{ClientStep, ClientView}
use Rattle.cl_handlers.specs.MessageRows.{is_own_or_absent, other_message, result_row, result_to}
use Rattle.cl_handlers.specs.SessionRows.{is_stanza}
use Rattle.cl_handlers.specs.Speech.{in_items}
use Rattle.cl_handlers.specs.ClientSteps.{is_apart, with_log}
use Rattle.cl_handlers.specs.declared.phase.Phase.TheVariants.{Online}
use Rattle.cmd_direct.specs.Direct.{as_logged}
use Rattle.im_forwarding.specs.Results.{archived_result, entry_elem, entry_item}
use Rattle.im_jid.specs.Normal.{normal}
use Rattle.im_mam.specs.Readings.{result_read}
use Rattle.im_requests.specs.Messages.{queryid_text}
use Rattle.im_stanza.specs.Names.{streams_ns}
use Rattle.im_stanza.specs.Readings.{stanza_of}
use Rattle.im_stanza.specs.Views.{IqView}
use Rattle.im_stanza.specs.Written.{IsNormal, iq_elem}
use Rattle.mam_archive.specs.Entries.{EntryView}
use Rattle.mam_log.specs.Views.{OpenPage, page_for, with_result}
use Rattle.mam_log.specs.declared.log_entry.LogEntry.{LogEntry}
use Rattle.sim_5_devices.proofs.AnswersSent.{asker}
use Rattle.sim_5_devices.proofs.Results.{logged_again, result_again}
use Rattle.sim_5_devices.proofs.Stanzas.{archived, archived_read, iq_read}
use Rattle.sim_5_devices.specs.Exchanges.{taken}
use Rattle.sim_5_devices.specs.Plain.{IsPlainEntry}
use Rattle.sim_3_items.specs.ItemWorlds.{read_of}
use Rattle.sm_outbox.specs.Sessions.{SessionView, with_waiting}
use Rattle.sm_outbox.specs.Waiting.{counted_in}
use Rattle.xml_framer.specs.declared.items.Item.TheVariants.{Element}
use Rattle.xml_trees.specs.Readers.{is_named}
use Rattle.xml_trees.specs.Trees.{Elem}
use Rattle.xml_writer.specs.Items.{ItemOut}
use Rattle.base_lemmas.proofs.Bytes.{bytes_eq-self}

-- one after another
pub taken_both : (t : ClientStep ItemOut ItemOut) (xs ys : List ItemOut) → taken t (xs ++ ys) ≡ taken (taken t xs) ys
taken_both t [] ys = refl
taken_both t (x ∷ xs) ys = taken_both (item_step in_items t (read_of x)) xs ys

-- a stanza comes where the client is online
read_there : (t : ClientStep ItemOut ItemOut) (s : SessionView ItemOut) (e : Elem) → t.client.phase ≡ Online → t.client.session ≡ Some s → is_named streams_ns (codes "error") e ≡ false → is_stanza e ≡ true
    → item_step in_items t (Element e) ≡ stanza_row in_items (handles in_items t s e) (stanza_of e)
read_there t s e online session other stanza =
    ap (λ p. if is_apart p then t else connected_step in_items t (Element e)) online
    ∙ rw other (ap (λ p. element_row in_items t p e) online ∙ ap (λ o. online_in in_items t o e) session ∙ rw stanza refl)

pub iq_comes : (t : ClientStep ItemOut ItemOut) (s : SessionView ItemOut) (v : IqView) → t.client.phase ≡ Online → t.client.session ≡ Some s → IsNormal v.from → IsNormal v.to
    → item_step in_items t (Element (iq_elem v)) ≡ iq_row in_items (handles in_items t s (iq_elem v)) v
iq_comes t s v online session from to = read_there t s (iq_elem v) online session refl refl ∙ ap (stanza_row in_items (handles in_items t s (iq_elem v))) (iq_read v from to)

-- the client has taken these results of the page, and so many stanzas wait as did
pub record IsAlong (c : ClientView ItemOut) (page : OpenPage) (queue : List ItemOut) (results : List LogEntry) (t : ClientStep ItemOut ItemOut) : Type 0 where
  pub account : t.client.account ≡ c.account
  pub online : t.client.phase ≡ Online
  pub pages : t.client.pages ≡ c.pages
  pub session : SessionView ItemOut
  pub stands : t.client.session ≡ Some session
  pub waits : session.waiting.queue ≡ queue
  pub entries : t.client.log.entries ≡ c.log.entries
  pub tiles : t.client.log.tiles ≡ c.log.tiles
  pub page_is : t.client.log.page ≡ Some (record page { results = results })

pub page_found : (page : OpenPage) (queryid : List ℕ) → page.queryid ≡ queryid → page_for queryid (Some page) ≡ Some page
page_found page queryid is = ap (λ id. if bytes_eq id queryid then Some page else None) is ∙ rw (bytes_eq-self queryid) refl

module _ (bare full : List ℕ) (bare_normal : normal bare ≡ Ok bare) (full_normal : normal full ≡ Ok full) (c : ClientView ItemOut) (page : OpenPage) (queue : List ItemOut)
    (q : ℕ) (own : c.account.bare ≡ bare) (id : page.queryid ≡ queryid_text q) where
  entry_comes : (t : ClientStep ItemOut ItemOut) (s : SessionView ItemOut) (e : EntryView) → t.client.phase ≡ Online → t.client.session ≡ Some s → t.client.account.bare ≡ bare → IsPlainEntry e
      → item_step in_items t (Element (entry_elem (asker bare full q) e)) ≡ result_to (handles in_items t s (entry_elem (asker bare full q) e)) (page_for (queryid_text q) t.client.log.page) (as_logged e)
  entry_comes t s e online session is_own plain =
      let x = entry_elem (asker bare full q) e in
      let h = handles in_items t s x in
      let result = archived_result (queryid_text q) e in
      let m = archived bare full result bare_normal full_normal in
      let own_one : is_own_or_absent t.client.account.bare (Some bare) ≡ true = ap (λ b. bytes_eq bare b) is_own ∙ bytes_eq-self bare in
      read_there t s x online session refl refl
      ∙ ap (stanza_row in_items h) (archived_read bare full result bare_normal full_normal)
      ∙ ap (λ b. if b then result_row h (result_read result) else other_message h m) own_one
      ∙ ap (result_row h) (result_again q e plain)
      ∙ ap (result_to h (page_for (queryid_text q) t.client.log.page)) (logged_again e plain)

  one_along : (t : ClientStep ItemOut ItemOut) (results : List LogEntry) (e : EntryView) → IsAlong c page queue results t → length results < page.max → IsPlainEntry e
      → IsAlong c page queue (results ++ as_logged e ∷ []) (item_step in_items t (Element (entry_elem (asker bare full q) e)))
  one_along t results e a low plain =
      let h = handles in_items t a.session (entry_elem (asker bare full q) e) in
      let step : item_step in_items t (Element (entry_elem (asker bare full q) e)) ≡ with_log h (with_result t.client.log (as_logged e)) =
      entry_comes t a.session e a.online a.stands (ap (λ x. x.bare) a.account ∙ own) plain
      ∙ ap (λ o. result_to h o (as_logged e)) (ap (page_for (queryid_text q)) a.page_is ∙ page_found (record page { results = results }) (queryid_text q) id)
      ∙ rw (lt-leb page.max (length results) low) refl in
      subst (IsAlong c page queue (results ++ as_logged e ∷ [])) (sym step)
      (record {
        account = a.account;
        online = a.online;
        pages = a.pages;
        session = with_waiting a.session (counted_in a.session.waiting);
        stands = refl;
        waits = a.waits;
        entries = a.entries;
        tiles = a.tiles;
        page_is = ap (option_map (λ (p : OpenPage). record p { results = p.results ++ as_logged e ∷ [] })) a.page_is;
      })

  pub all_along : (es : List EntryView) (t : ClientStep ItemOut ItemOut) (results : List LogEntry) → IsAlong c page queue results t → length results + length (map as_logged es) ≤ page.max → AllByRecursion IsPlainEntry es
      → IsAlong c page queue (results ++ map as_logged es) (taken t (map (entry_item (asker bare full q)) es))
  all_along [] t results a low plain = subst (λ rs. IsAlong c page queue rs t) (sym (append-nil results)) a
  all_along (e ∷ es) t results a low plain =
      let below : length results + suc (length (map as_logged es)) ≤ page.max = low in
      let size : length (results ++ as_logged e ∷ []) ≡ length results + 1 = length_more results (as_logged e) in
      let first = one_along t results e a (omega (arith, below)) plain.0 in
      subst (λ rs. IsAlong c page queue rs (taken t (map (entry_item (asker bare full q)) (e ∷ es)))) (append_assoc results (as_logged e ∷ []) (map as_logged es))
      (all_along es (item_step in_items t (Element (entry_elem (asker bare full q) e))) (results ++ as_logged e ∷ []) first (omega (arith, below, size)) plain.1)
    where
      length_more : (xs : List LogEntry) (x : LogEntry) → length (xs ++ x ∷ []) ≡ length xs + 1
      length_more [] x = refl
      length_more (y ∷ ys) x = let rest : length (ys ++ x ∷ []) ≡ length ys + 1 = length_more ys x in omega (arith, rest)
