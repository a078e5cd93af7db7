-- The message that is listed there is marked as the directory says now.
use Rattle.std.proofs.Common.{◌≡◌, ℕ, Bool, ◌&&◌, not, Some, None, refl, sym, ap, ◌∙◌}
use Rattle.std.specs.Prelude.{if◌then◌else◌}
use Rattle.std.proofs.lemmas.Bool.{eq-eqb}
use Rattle.tcc_msg.specs.Plain.{msg_of}
use Rattle.rules_tcc.specs.DirDeliver.{dir_deliver}
use Rattle.directory.specs.Data.{dir_of}
use Rattle.directory.specs.Gives.{is_taken}
use Rattle.machine_links.specs.declared.subject.Entry.{Entry}
use Rattle.machine_links.specs.Subject.{Subject, entry, key, of_key, subject_of}
use Rattle.machine_dirs.proofs.MarkedAbout.{set-elsewhere, set-here, set-its}
use Rattle.machine_dirs.proofs.remarking.remark_listed.Goals as goal

-- the entry of a message names it
its-entry : (on : Subject) (c d k : ℕ) (f : Entry) → Some f ≡ of_key (key on) (Some (entry on c d k)) → f ≡ entry on c d k
its-entry on c d k f q =
    let same : Some f ≡ Some (entry on c d k) =
    q ∙ ap {A = Bool} (λ b. if b then Some (entry on c d k) else None) (eq-eqb (key on) (key on) refl) in
    cc

pub takes-ready-requires : goal.takes-ready-requires
takes-ready-requires c =
    (c.requires.home c.in-Some.entry.src.0 c.in-Some.entry.seq (msg_of c.in-Some-get.msg.now) (sym c.in-Some-get.ensures)).0

pub returns-in-Some-get-clause-its : goal.returns-in-Some-get-clause-its
returns-in-Some-get-clause-its c = λ e b k m at fly.
    let f = c.in-Some.entry in
    let m0 = msg_of c.in-Some-get.msg.now in
    let x = c.args.dir.now in
    let flies = sym c.in-Some-get.ensures in
    let home = c.requires.home f.src.0 f.seq m0 flies in
    let says : (e : ℕ → ℕ) → c.takes-ready.result ≡ is_taken (dir_deliver x.lines.place.shape (dir_of e x) f.src.0 m0) =
    λ e. c.takes-ready.ensures e ∙ ap (λ b. not b && is_taken (dir_deliver x.lines.place.shape (dir_of e x) f.src.0 m0)) home.1 in
    let on = subject_of c.args.on in
    let named = its-entry on b c.args.dst.0 k f (sym c.in-Some.is ∙ c.listed_at.ensures ∙ ap (of_key (key on)) at) in
    set-its x c.args.dst.0 f.src.0 f.seq m0 c.takes-ready.result c.args.flights.now c.set_ready.new.self flies says
    c.set_ready.ensures.ready e b k m (sym (ap (λ g. g.src.0) named)) (sym (ap (λ g. g.seq) named)) fly

pub returns-in-Some-get-clause-here : goal.returns-in-Some-get-clause-here
returns-in-Some-get-clause-here c = λ e b k m fly.
    let f = c.in-Some.entry in
    let m0 = msg_of c.in-Some-get.msg.now in
    let x = c.args.dir.now in
    let flies = sym c.in-Some-get.ensures in
    let home = c.requires.home f.src.0 f.seq m0 flies in
    let says : (e : ℕ → ℕ) → c.takes-ready.result ≡ is_taken (dir_deliver x.lines.place.shape (dir_of e x) f.src.0 m0) =
    λ e. c.takes-ready.ensures e ∙ ap (λ b. not b && is_taken (dir_deliver x.lines.place.shape (dir_of e x) f.src.0 m0)) home.1 in
    set-here x c.args.dst.0 f.src.0 f.seq m0 c.takes-ready.result c.args.flights.now c.set_ready.new.self flies says
    c.set_ready.ensures.ready e b k m fly

pub returns-in-Some-get-clause-others : goal.returns-in-Some-get-clause-others
returns-in-Some-get-clause-others c = λ t u k h.
    let f = c.in-Some.entry in
    let m0 = msg_of c.in-Some-get.msg.now in
    let x = c.args.dir.now in
    let flies = sym c.in-Some-get.ensures in
    let home = c.requires.home f.src.0 f.seq m0 flies in
    let says : (e : ℕ → ℕ) → c.takes-ready.result ≡ is_taken (dir_deliver x.lines.place.shape (dir_of e x) f.src.0 m0) =
    λ e. c.takes-ready.ensures e ∙ ap (λ b. not b && is_taken (dir_deliver x.lines.place.shape (dir_of e x) f.src.0 m0)) home.1 in
    set-elsewhere x c.args.dst.0 f.src.0 f.seq m0 c.takes-ready.result c.args.flights.now c.set_ready.new.self flies says
    c.set_ready.ensures.ready t u k h
