use Rattle.std.proofs.Common.{◌≡◌, Bool, List, [], ◌∷◌, map, refl, sym, ap, ◌∙◌}
use Rattle.std.specs.Prelude.{◌||◌, ◌&&◌, bytes_eq}
use Rattle.std.specs.List.{list_any}
use Rattle.sftp_client.proofs.announced.Announced.has.Goals as goal

-- a test of what values are mapped to
any-map : {A B : Type 0} (passes : B → Bool) (f : A → B) (values : List A)
    → list_any passes (map f values) ≡ list_any (λ a. passes (f a)) values
any-map passes f [] = refl
any-map passes f (a ∷ values) = ap (λ others. passes (f a) || others) (any-map passes f values)

pub returns : goal.returns
returns c =
    rw (← c.self.view_is)
    (c.is_marked.ensures
    ∙ sym (any-map (λ extension. bytes_eq c.args.name.now extension.0 && extension.1)
    (λ extension. (extension.0.now, extension.1)) c.self.inside.extensions))
