mod NewScope
